-- The offers of several persons under one table of prices.
use Rattle.std.specs.Prelude.{◌≡◌, ℕ, ℤ, List, length, map, All, OnOk, Result}
use Rattle.assign_core.specs.Numbered.{IsNumber}
use Rattle.scaled_values.specs.Scaled.{ScaledProblem}
use Rattle.bidder.specs.declared.offers.Ask.{Ask}
use Rattle.bidder.specs.declared.offers.Offer.{Offer}
use Rattle.bidder.specs.declared.offers.Offer.TheVariants as made
use Rattle.bidder.specs.Offers.{IsAsk, offer_of}

-- the offers of these persons, in their order, all from one table; rounds keep no versions, so each
-- version is 0
abbrev pub offers_of : ScaledProblem → List ℤ → Ask → List ℕ → List Offer
offers_of s prices ask persons = map (offer_of s prices 0 ask) persons

-- persons of the problem, a price for each object, and what some phase asks
pub record CanOffer (s : ScaledProblem) (prices : List ℤ) (ask : Ask) (persons : List ℕ) : Type 0 where
  pub numbers : All (IsNumber (length s.problem)) persons
  pub priced : length prices ≡ length s.problem
  pub asked : IsAsk s ask

-- a buffer with the offers of these persons, unless memory was refused
abbrev pub AreMade : {T E : Type 0} → ScaledProblem → List ℤ → Ask → List ℕ → Result T E → List Offer → Type 0
AreMade s prices ask persons result offers = OnOk result (offers ≡ offers_of s prices ask persons)

-- an offer under another person's name
abbrev pub named : ℕ → Offer → Offer
named i (made.Bid bid) = made.Bid (record bid { person = i })
named i (made.Below below) = made.Below (record below { person = i })
