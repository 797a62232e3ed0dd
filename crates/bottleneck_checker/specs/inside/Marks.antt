-- Costs and prices by marks.
use Rattle.std.specs.Prelude.{◌≡◌, ℕ, ℤ, pos, ◌<◌, ◌<ℤ◌, List, Some, Bool, false, length, slice_index_or, All, if◌then◌else◌}
use Rattle.std.specs.List.Sorted.{IsStrictlyIncreasing}
use Rattle.assign_core.specs.Numbered.{IsMarked, IsNumber}
use Rattle.assign_core.specs.Rows.{listed_in, row_of}
use Rattle.cost_lists.specs.ListedCosts.{ListedCosts}
use Rattle.cost_lists.specs.Own.{minimised}

-- where there is a mark a list has the value, and else what another one has
abbrev pub AreSet : List ℤ → List Bool → ℤ → List ℤ → Type 0
AreSet before marks value after =
    (k : ℕ) → k < length after → slice_index_or after k (pos 0) ≡ (if slice_index_or marks k false then value else slice_index_or before k (pos 0))

-- no marked person lists an object without a mark at a turned cost below one
abbrev pub NoneBelow : ListedCosts → List Bool → List Bool → ℤ → Type 0
NoneBelow l chosen named worst =
    (i k : ℕ) (c : ℤ) → IsMarked chosen i → listed_in (row_of l.rows i) k ≡ Some c → minimised l.sense c <ℤ worst → IsMarked named k

-- rising lists of persons and of objects, which are fewer
pub record AreFewer (l : ListedCosts) (persons objects : List ℕ) : Type 0 where
  pub persons_rise : IsStrictlyIncreasing persons
  pub objects_rise : IsStrictlyIncreasing objects
  pub persons_in : All (IsNumber (length l.rows)) persons
  pub objects_in : All (IsNumber l.m) objects
  pub fewer : length objects < length persons
