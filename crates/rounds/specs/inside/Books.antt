-- A book within a round.
use Rattle.std.specs.Prelude.{◌≡◌, ℕ, ◌<◌, List, [], length, Option, None, Some}
use Rattle.bidder.specs.declared.offers.Offer.{Offer}
use Rattle.auction_book.specs.Book.{BookData, prices_of}
use Rattle.rounds.specs.Offers.{offers_of}
use Rattle.rounds.specs.Plain.{Goes, Ends, Halted, after_offers}
use Rattle.rounds.specs.Rounds.{AreClaimed, IsAtRest, IsBelowFloor, IsGoing, plain_of, room}

-- all who waited are claimed, by workers 1, 2, ..
pub record IsClaimed (old : BookData) (persons : List ℕ) (new : BookData) : Type 0 where
  pub going : IsGoing new
  pub all : persons ≡ old.queue
  pub rest : new ≡ record old { queue = []; claims = new.claims }
  pub claimed : AreClaimed persons 0 new.claims

-- claimed persons with their offers from the book's prices
pub record HaveOffered (b : BookData) (persons : List ℕ) (offers : List Offer) : Type 0 where
  pub going : IsGoing b
  pub claimed : AreClaimed persons 0 b.claims
  pub made : offers ≡ offers_of b.base (prices_of b) b.ask persons

-- offers are submitted one by one, up to the first that is below the floor
abbrev pub AreSubmitted : BookData → List Offer → Option ℕ → BookData → Type 0
AreSubmitted old offers None new = (after_offers offers (plain_of old) ≡ Goes (plain_of new)) × IsAtRest new ×
    (0 < length offers → room (prices_of new) < room (prices_of old))
AreSubmitted old offers (Some person) new = (after_offers offers (plain_of old) ≡ Ends (Halted person (plain_of new))) × IsBelowFloor new person
