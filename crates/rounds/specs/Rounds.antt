-- A book as a plain auction, and one round over it.
use Rattle.std.specs.Prelude.{◌≡◌, ℕ, ℤ, suc, ◌+ℤ◌, ◌-ℤ◌, ◌<◌, ◌≤◌, List, [], ◌∷◌, length, slice_index_or, Option, None, Some, Bool, true, false}
use Rattle.std.specs.List.{sum_by}
use Rattle.std.specs.Int.RustNames.{unsigned_abs}
use Rattle.std.specs.Int.Signed.{lt_z}
use Rattle.assign_core.specs.Numbered.{numbered}
use Rattle.assign_core.specs.declared.numbers.TheConstants.{PRICE_END}
use Rattle.assign_core.specs.Prices.{IsBelow, price_of}
use Rattle.scaled_values.specs.Scaled.{ScaledProblem}
use Rattle.bidder.specs.declared.offers.Bid.{Bid}
use Rattle.bidder.specs.declared.offers.Offer.{Offer}
use Rattle.bidder.specs.declared.offers.Offer.TheVariants as made
use Rattle.bidder.specs.Offers.{IsUnder, benefits_at}
use Rattle.auction_book.specs.Book.{BookData, Holds, prices_of}
use Rattle.auction_book.specs.Changes.{accepted, released}
use Rattle.auction_book.specs.Free.{IsFree}
use Rattle.rounds.specs.declared.rounds.Round.{Round}
use Rattle.rounds.specs.declared.rounds.Round.TheVariants as came
use Rattle.rounds.specs.Offers.{offers_of}
use Rattle.rounds.specs.Plain.{Plain, Goes, Ends, Halted, round}

-- a problem, the persons who bid in its last round, and their offers
pub record RoundsData : Type 0 where
  pub base : ScaledProblem
  pub persons : List ℕ
  pub offers : List Offer

-- the rounds of a problem before the first one
abbrev pub no_round_yet : ScaledProblem → RoundsData
no_round_yet s = record { base = s; persons = []; offers = [] }

-- a book without its log, its claims and its counts
abbrev pub plain_of : BookData → Plain
plain_of b = record { prices = prices_of b; owners = b.owners; queue = b.queue; ask = b.ask }

-- the sum of the distances of the prices from their end
abbrev pub room : List ℤ → ℕ
room prices = sum_by (λ p. unsigned_abs (PRICE_END -ℤ p)) prices

-- no Hall set is recorded, the book isn't stopped, and it has a worker for each person
pub record IsGoing (b : BookData) : Type 0 where
  pub free : IsFree b
  pub unrefuted : b.refuted ≡ None
  pub unstopped : b.stopped ≡ false
  pub workers : length b.claims ≡ length b.base.problem

-- worker k + 1 holds the claim of the person at place k, for the places from i on, and no other worker holds one
pub record AreClaimed (persons : List ℕ) (i : ℕ) (claims : List (Option ℕ)) : Type 0 where
  pub held : (k d : ℕ) → i ≤ k → k < length persons → numbered claims (suc k) None ≡ Some (slice_index_or persons k d)
  pub past : (worker : ℕ) → worker ≤ i → numbered claims worker None ≡ None
  pub others : (worker : ℕ) → length persons < worker → numbered claims worker None ≡ None

-- between two rounds: no person is claimed
pub record IsAtRest (b : BookData) : Type 0 where
  pub going : IsGoing b
  pub unclaimed : AreClaimed [] 0 b.claims

-- a claimed person lists nothing, or only objects whose values are below the floor under some table
-- below the book's prices
pub record IsBelowFloor (b : BookData) (person : ℕ) : Type 0 where
  pub free : IsFree b
  pub worker : ℕ
  pub held : Holds b worker person
  pub table : List ℤ
  pub below : IsBelow table (prices_of b)
  pub under : IsUnder (benefits_at b.base person) table b.ask.floor

-- the offers of all who wait, from the book's prices
abbrev pub waiting_offers : BookData → List Offer
waiting_offers b = offers_of b.base (prices_of b) b.ask b.queue

-- one round: nobody waited, or a person is below the floor, or prices rose
abbrev pub IsRound : BookData → Round → BookData → Type 0
IsRound old came.Over new = (old.queue ≡ []) × (plain_of new ≡ plain_of old) × IsAtRest new
IsRound old (came.Halted person) new = (0 < length old.queue) × (round old.base (plain_of old) ≡ Ends (Halted person (plain_of new))) × IsBelowFloor new person
IsRound old came.More new = (0 < length old.queue) × (round old.base (plain_of old) ≡ Goes (plain_of new)) ×
    IsAtRest new × (room (prices_of new) < room (prices_of old))

-- the book after a bid, which is too low or is accepted
abbrev pub book_after : Bool → BookData → ℕ → Bid → BookData
book_after true b worker bid = released b worker bid.person
book_after false b worker bid = accepted b worker bid

-- the book after a bid, which is accepted at a level of eps above the price or more
abbrev pub book_after_bid : BookData → ℕ → Bid → BookData
book_after_bid b worker bid = book_after (lt_z bid.level (price_of (prices_of b) bid.object +ℤ b.ask.eps)) b worker bid

-- offers are submitted one by one by workers i + 1, i + 2, .., up to the first that is below the
-- floor
abbrev pub book_after_offers : List Offer → ℕ → BookData → BookData
book_after_offers [] i b = b
book_after_offers (made.Bid bid ∷ offers) i b = book_after_offers offers (suc i) (book_after_bid b (suc i) bid)
book_after_offers (made.Below below ∷ offers) i b = b

-- workers 1, 2, .. claimed all who waited, and these submitted the offers
abbrev pub IsAfterOffers : BookData → List Offer → BookData → Type 0
IsAfterOffers old offers new = (claims : List (Option ℕ)) × AreClaimed old.queue 0 claims ×
    (new ≡ book_after_offers offers 0 (record old { queue = []; claims = claims }))
