-- Lists that a call writes out.
use Rattle.std.specs.Prelude.{◌≡◌, ℕ, List, true, length}
use Rattle.c_counts.specs.declared.written.Written.{Written}
use Rattle.c_counts.specs.Input.{InputCounts, columns_of, groups_of, is_dense, rows_of}

-- the rows, the columns and the groups that are meant, where none are given
abbrev pub AreRows : InputCounts → List ℕ → Type 0
AreRows g rows = is_dense g ≡ true → rows ≡ rows_of g

abbrev pub AreColumns : InputCounts → List ℕ → Type 0
AreColumns g columns = is_dense g ≡ true → columns ≡ columns_of g

abbrev pub AreGroups : InputCounts → List ℕ → Type 0
AreGroups g groups = length g.groups ≡ 0 → groups ≡ groups_of g

pub record IsWritten (g : InputCounts) (w : Written) : Type 0 where
  pub rows : AreRows g w.rows.items
  pub columns : AreColumns g w.columns.items
  pub groups : AreGroups g w.groups.items
