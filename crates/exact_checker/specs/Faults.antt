-- The faults of two lists, one of objects and one of prices.
use Rattle.std.specs.Prelude.{◌≢◌, ℕ, ℤ, pos, ◌<ℤ◌, List, Contains}
use Rattle.assign_core.specs.declared.sense.Sense.{Sense}
use Rattle.assign_core.specs.declared.sense.Sense.TheVariants.{Min, Max}
use Rattle.assign_core.specs.Rows.{IsListed, listed_or_zero, row_of}
use Rattle.assign_core.specs.Prices.{price_of}
use Rattle.dual_checker.specs.Faults.{own_object}
use Rattle.cost_lists.specs.ListedCosts.{ListedCosts}
use Rattle.cost_lists.specs.Exact.{with_price}

-- the price of object j isn't in the range
abbrev pub IsOutOfRange : (ℤ → Type 0) → List ℤ → ℕ → Type 0
IsOutOfRange InRange prices j = ¬ InRange (price_of prices j)

-- the first cost is better than the second
abbrev pub IsBetter : Sense → ℤ → ℤ → Type 0
IsBetter Min cost other = cost <ℤ other
IsBetter Max cost other = other <ℤ cost

-- the cost of person i and object j with the object's price
abbrev pub paid : ListedCosts → List ℤ → ℕ → ℕ → ℤ
paid l prices i j = with_price l.sense prices j (listed_or_zero (row_of l.rows i) j)

-- person i lists object k, which is better for it than its own object
pub record IsBetterFor (l : ListedCosts) (xs : List ℕ) (prices : List ℤ) (i k : ℕ) : Type 0 where
  pub listed : IsListed l.rows i k
  pub better : IsBetter l.sense (paid l prices i k) (paid l prices i (own_object xs i))

-- some object is better for person i than its own
abbrev pub IsShort : ListedCosts → List ℕ → List ℤ → ℕ → Type 0
IsShort l xs prices i = (k : ℕ) × IsBetterFor l xs prices i k

-- nobody owns object j, and its price isn't 0
abbrev pub IsPricedUnowned : List ℕ → List ℤ → ℕ → Type 0
IsPricedUnowned xs prices j = ¬ Contains xs j × (price_of prices j ≢ pos 0)
