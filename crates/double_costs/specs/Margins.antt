-- Margins of plans, and costs that are near the costs of a plan.
use Rattle.std.specs.Prelude.{◌≡◌, ℕ, ℤ, pos, ◌-ℤ◌, ◌*ℤ◌, ◌<ℤ◌, ◌*◌, ◌^◌, ◌≤◌, ◌↔◌, List, Some, IsSome, max, All}
use Rattle.std.specs.Prelude.{unsigned_abs}
use Rattle.std.specs.List.{AllZip}
use lib.Ieee.{Float}
use Rattle.assign_core.specs.Rows.{Listing, listed_in}
use Rattle.double_costs.specs.Units.{units_of}

-- a margin above 0, and no cost is over 2 ^ 52 times its size
pub record IsMarginOf (margin : ℤ) (costs : List Float) : Type 0 where
  pub some : pos 0 <ℤ margin
  pub enough : All (λ c. unsigned_abs (units_of c) ≤ 2 ^ 52 * unsigned_abs margin) costs

-- two rows list the same objects, each at two costs of which R holds
pub record IsRowBeside (R : ℤ → ℤ → Type 0) (row other : Listing) : Type 0 where
  pub same : (k : ℕ) → IsSome (listed_in other k) ↔ IsSome (listed_in row k)
  pub costs : (k : ℕ) (c d : ℤ) → listed_in row k ≡ Some c → listed_in other k ≡ Some d → R c d

-- the same of the rows of all persons
abbrev pub AreRowsBeside : (ℤ → ℤ → Type 0) → List Listing → List Listing → Type 0
AreRowsBeside R rows others = AllZip (IsRowBeside R) rows others

-- with `scale` parts to a unit: d parts are at most half the margin away from c units
abbrev pub IsWithinHalf : ℕ → ℕ → ℤ → ℤ → Type 0
IsWithinHalf scale margin c d = 2 * unsigned_abs (d -ℤ (pos scale *ℤ c)) ≤ scale * margin

-- with `scale` parts to a unit: d parts are at most half a unit, or 2 ^ -53 of c, away from c units;
-- so near a double is each number of which it is the nearest one
abbrev pub IsRoundedTo : ℕ → ℤ → ℤ → Type 0
IsRoundedTo scale c d = 2 ^ 53 * unsigned_abs (d -ℤ (pos scale *ℤ c)) ≤ scale * max (unsigned_abs c) (2 ^ 52)
