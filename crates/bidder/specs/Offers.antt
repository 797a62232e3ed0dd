-- What a person offers under a table of prices, and what a bid needs to keep slackness.
use Rattle.std.specs.Prelude.{◌≡◌, ◌≢◌, ℕ, ℤ, ◌+ℤ◌, ◌-ℤ◌, ◌≤ℤ◌, ◌<ℤ◌, List, Option, None, Some, All, cond}
use Rattle.std.specs.Int.{int_max}
use Rattle.std.specs.Int.Signed.{lt_z}
use Rattle.assign_core.specs.Rows.{Listing, IsListed, listed_or_zero, row_of}
use Rattle.assign_core.specs.Prices.{IsPrice, price_of}
use Rattle.scaled_values.specs.Scaled.{ScaledProblem, benefits_of, greatest_benefit, IsEps, floor_of}
use Rattle.bidder.specs.declared.scan.BestTwo.{BestTwo}
use Rattle.bidder.specs.declared.offers.Ask.{Ask}
use Rattle.bidder.specs.declared.offers.Bid.{Bid}
use Rattle.bidder.specs.declared.offers.Offer.{Offer}
use Rattle.bidder.specs.declared.offers.Offer.TheVariants as made
use Rattle.bidder.specs.BestTwo.{IsBestTwo, best_two}

-- the slackness and the floor of some phase
pub record IsAsk (s : ScaledProblem) (ask : Ask) : Type 0 where
  pub slackness : IsEps s ask.eps
  pub start : ℤ
  pub price : IsPrice start
  pub floor : ask.floor ≡ floor_of s start ask.eps

-- the row of person i, with benefits
abbrev pub benefits_at : ScaledProblem → ℕ → Listing
benefits_at s i = row_of (benefits_of s) i

-- nothing is listed, or all listed objects have values below the floor
abbrev pub IsUnder : Listing → List ℤ → ℤ → Type 0
IsUnder row prices floor = All (λ e. e.1 <ℤ (floor +ℤ price_of prices e.0)) row

-- the bar of a bid: the greater of the second value and the floor
abbrev pub bar : ℤ → Option ℤ → ℤ
bar floor None = floor
bar floor (Some w) = int_max w floor

-- the bid for the best object, whose value is at least the floor: at the bid's level this value is
-- the bar less eps
pub record IsBid (s : ScaledProblem) (prices : List ℤ) (ask : Ask) (bid : Bid) : Type 0 where
  pub two : BestTwo
  pub best : IsBestTwo (benefits_at s bid.person) prices two
  pub object : bid.object ≡ two.object
  pub enough : ask.floor ≤ℤ two.best
  pub level : (bid.level +ℤ bar ask.floor two.second)
      ≡ (listed_or_zero (benefits_at s bid.person) bid.object +ℤ ask.eps)

-- the offer of a person: a bid, or Below if no listed object has a value of at least the floor
abbrev pub IsOffer : ScaledProblem → List ℤ → ℕ → Ask → ℕ → Offer → Type 0
IsOffer s prices version ask i (made.Bid bid) =
    (bid.person ≡ i) × (bid.phase ≡ ask.phase) × (bid.version ≡ version) × IsBid s prices ask bid
IsOffer s prices version ask i (made.Below below) =
    (below.person ≡ i) × (below.phase ≡ ask.phase) × IsUnder (benefits_at s i) prices ask.floor

-- the offer that a best two makes
abbrev pub offer_from : List ℤ → ℕ → Ask → ℕ → Option BestTwo → Offer
offer_from prices version ask i None = made.Below (record { person = i; phase = ask.phase })
offer_from prices version ask i (Some b) = cond (lt_z b.best ask.floor)
    (made.Below (record { person = i; phase = ask.phase }))
    (made.Bid (record {
      person = i;
      object = b.object;
      level = (b.best +ℤ price_of prices b.object) -ℤ bar ask.floor b.second +ℤ ask.eps;
      phase = ask.phase;
      version = version;
    }))

-- the offer of a person
abbrev pub offer_of : ScaledProblem → List ℤ → ℕ → Ask → ℕ → Offer
offer_of s prices version ask i = offer_from prices version ask i (best_two (benefits_at s i) prices)

-- at the bid's level, no other listed object at these prices has a value above the bid's object by
-- over eps; and level and floor add up to at most the greatest benefit plus eps
pub record IsSound (s : ScaledProblem) (ask : Ask) (prices : List ℤ) (bid : Bid) : Type 0 where
  pub listed : IsListed (benefits_of s) bid.person bid.object
  pub near : All (λ e. e.0 ≢ bid.object
      → (e.1 +ℤ bid.level)
      ≤ℤ (listed_or_zero (benefits_at s bid.person) bid.object +ℤ ask.eps +ℤ price_of prices e.0))
      (benefits_at s bid.person)
  pub topped : (bid.level +ℤ ask.floor) ≤ℤ (greatest_benefit s +ℤ ask.eps)

-- if an offer is a bid, the bid is sound
abbrev pub IsSoundOffer : ScaledProblem → Ask → List ℤ → Offer → Type 0
IsSoundOffer s ask prices (made.Bid bid) = IsSound s ask prices bid
IsSoundOffer s ask prices (made.Below below) = Unit {0}
