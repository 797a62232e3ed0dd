-- What a scaled problem keeps.
use Rattle.std.specs.Prelude.{◌≡◌, ℕ, ℤ, ◌<◌, List, length, map, All}
use Rattle.assign_core.specs.Rows.{Listing as Entries, IsProblem}
use Rattle.assign_core.specs.Dense.{row_from}
use Rattle.scaled_values.specs.Scaled.{ScaledProblem, benefits_of, least_benefit, greatest_benefit}
use Rattle.scaled_values.specs.declared.row.StoredRow.{StoredRow}
use Rattle.scaled_values.specs.declared.row.StoredRow.TheVariants.{Full, Pairs}

-- objects with their benefits
abbrev pub stored_entries : StoredRow → Entries
stored_entries (Full benefits) = row_from 1 benefits.items
stored_entries (Pairs pairs) = pairs.items

-- full exactly where all n objects are listed
abbrev pub HasStoredForm : ℕ → StoredRow → Type 0
HasStoredForm n (Full benefits) = length benefits.items ≡ n
HasStoredForm n (Pairs pairs) = length pairs.items < n

-- the benefits of all rows, and the least and the greatest of them
pub record IsStored (s : ScaledProblem) (rows : List StoredRow) (low high : ℤ) : Type 0 where
  pub problem : IsProblem s.problem
  pub entries : map stored_entries rows ≡ benefits_of s
  pub form : All (HasStoredForm (length s.problem)) rows
  pub least : low ≡ least_benefit s
  pub greatest : high ≡ greatest_benefit s
