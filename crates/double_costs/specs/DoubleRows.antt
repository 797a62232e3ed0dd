-- Rows of doubles, in which an infinity forbids its pair.
use Rattle.std.specs.Prelude.{◌≡◌, ℕ, zero, suc, ◌+◌, ◌<◌, ℤ, List, [], ◌∷◌, take, drop, length, Option, None, Some}
use Rattle.std.specs.Prelude.{Bool, true, false, not, IsTrue, slice_index_or}
use lib.Ieee.{Float, nan, inf, fin}
use Rattle.assign_core.specs.declared.sense.Sense.{Sense}
use Rattle.assign_core.specs.declared.sense.Sense.TheVariants.{Min, Max}
use Rattle.assign_core.specs.Rows.{Listing}
use Rattle.cost_lists.specs.Given.{with_cost}
use Rattle.double_costs.specs.Units.{units_of}

-- a finite number, or the infinity that forbids a pair: the positive one under Min, the negative one
-- under Max
abbrev pub is_cost : Sense → Float → Bool
is_cost sense nan = false
is_cost Min (inf s) = not s
is_cost Max (inf s) = s
is_cost sense (fin s m e) = true

-- the cost in units of 2 ^ -1074; none for a forbidden pair
abbrev pub cost_in : Float → Option ℤ
cost_in nan = None
cost_in (inf s) = None
cost_in (fin s m e) = Some (units_of (fin s m e))

-- a row with these costs for the objects j, j + 1, .., without the forbidden ones
abbrev pub row_of_doubles : ℕ → List Float → Listing
row_of_doubles j [] = []
row_of_doubles j (c ∷ costs) = with_cost j (cost_in c) (row_of_doubles (j + 1) costs)

-- the rows of n persons: the first m costs are those of the first person, the next m those of the
-- second, ..
abbrev pub rows_of_doubles : ℕ → ℕ → List Float → List Listing
rows_of_doubles m zero costs = []
rows_of_doubles m (suc n) costs = row_of_doubles 1 (take m costs) ∷ rows_of_doubles m n (drop m costs)

-- k is the first place, from 0, of what is no cost
pub record IsFirstFault (sense : Sense) (costs : List Float) (k : ℕ) : Type 0 where
  pub within : k < length costs
  pub here : is_cost sense (slice_index_or costs k nan) ≡ false
  pub none_before : (i : ℕ) → i < k → IsTrue (is_cost sense (slice_index_or costs i nan))
