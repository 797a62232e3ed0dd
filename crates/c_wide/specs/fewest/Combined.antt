-- Combined costs of the pairs that a caller gives.
use Rattle.std.specs.Prelude.{◌≡◌, ℕ, ℤ, pos, ◌+◌, ◌-◌, ◌/◌, ◌%◌, ◌<◌, ◌≤◌, List, length, map, All, slice_index_or}
use Rattle.assign_core.specs.declared.sense.Sense.{Sense}
use Rattle.c_calls.specs.declared.lists.form.Form.{Form}
use Rattle.c_calls.specs.declared.lists.form.Form.TheVariants.{Dense, Sparse}
use Rattle.c_calls.specs.lists.Input.{InputLists}
use Rattle.wide_checker.specs.declared.numbers.Wide.{Wide}
use Rattle.wide_checker.specs.WideNumbers.{IsWideCost, wide_value}
use Rattle.c_wide.specs.fewest.Changes.{change, with_change}

-- each kept object is one of m, or 0
abbrev pub AreKept : ℕ → List ℕ → Type 0
AreKept m kept = All (λ j. j ≤ m) kept

-- the person of a place of the costs, from 0
abbrev pub person_at : Form → InputLists → ℕ → ℕ
person_at Dense g k = k / g.m
person_at Sparse g k = slice_index_or g.persons k 0 - 1

-- its object, from 1
abbrev pub object_at : Form → InputLists → ℕ → ℕ
object_at Dense g k = k % g.m + 1
object_at Sparse g k = slice_index_or g.objects k 0

-- the combined cost at a place
abbrev pub combined_at : Sense → InputLists → List ℕ → ℕ → ℤ
combined_at sense g kept k =
    with_change sense g.n (slice_index_or g.costs k (pos 0))
    (change (slice_index_or kept (person_at g.form g k) 0) (object_at g.form g k))

-- the combined costs at the first k places
pub record AreCombined (sense : Sense) (g : InputLists) (kept : List ℕ) (k : ℕ) (costs : List Wide) : Type 0 where
  pub long : length costs ≡ k
  pub each : (i : ℕ) → i < k → slice_index_or (map wide_value costs) i (pos 0) ≡ combined_at sense g kept i
  pub within : All IsWideCost costs
