-- Units of doubles that are powers of two: unit e is 2 ^ (e - 1074).
use Rattle.std.specs.Prelude.{◌≡◌, ℕ, ℤ, pos, ◌*◌, ◌*ℤ◌, ◌^◌, ◌<◌, ◌≤◌, ◌⊎◌, List, All, IsTrue, length}
use Rattle.std.specs.Prelude.{unsigned_abs, slice_index_or}
use lib.Ieee.{Float, nan}
use Rattle.double_costs.specs.Units.{is_number, units_of}

-- a finite double is a whole number of units; of what isn't finite nothing is said
abbrev pub IsMultiple : ℕ → Float → Type 0
IsMultiple e x = (k : ℕ) × (unsigned_abs (units_of x) ≡ k * 2 ^ e)

-- a unit of all finite costs
abbrev pub IsUnit : ℕ → List Float → Type 0
IsUnit e costs = All (IsMultiple e) costs

-- each finite cost is 0
abbrev pub AreZeros : List Float → Type 0
AreZeros costs = All (λ c. units_of c ≡ pos 0) costs

-- the greatest unit of all finite costs; the unit 1 where each of them is 0
pub record IsGreatestUnit (e : ℕ) (costs : List Float) : Type 0 where
  pub unit : IsUnit e costs
  pub greatest : ((d : ℕ) → IsUnit d costs → d ≤ e) ⊎ ((e ≡ 1074) × AreZeros costs)

-- at most 2 ^ 100 units
abbrev pub IsWithin : ℕ → Float → Type 0
IsWithin e x = unsigned_abs (units_of x) ≤ 2 ^ 100 * 2 ^ e

-- k is the first place of a cost above 2 ^ 100 of the greatest units; it is above 2 ^ 100 of any units
pub record IsFirstAbove (costs : List Float) (k : ℕ) : Type 0 where
  pub e : ℕ
  pub greatest : IsGreatestUnit e costs
  pub below : k < length costs
  pub before : (i : ℕ) → i < k → IsWithin e (slice_index_or costs i nan)
  pub above : (d : ℕ) → IsUnit d costs → 2 ^ 100 * 2 ^ d < unsigned_abs (units_of (slice_index_or costs k nan))

-- a finite double that is z units
pub record IsInUnits (e : ℕ) (x : Float) (z : ℤ) : Type 0 where
  pub finite : IsTrue (is_number x)
  pub is : pos (2 ^ e) *ℤ z ≡ units_of x
