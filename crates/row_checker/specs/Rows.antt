-- Rows over variables that are 0 or 1, and plans that meet them.
use Rattle.std.specs.Prelude.{◌≡◌, ℕ, zero, suc, ℤ, pos, negsuc, ◌+ℤ◌, ◌≤ℤ◌, List, [], ◌∷◌, Bool, false, Option}
use Rattle.std.specs.Prelude.{None, Some, if◌then◌else◌, All, length, slice_index_or}
use Rattle.row_checker.specs.declared.row.Multiple.{Multiple}
use Rattle.row_checker.specs.declared.row.Row.{Row}

-- a plan: whether each variable is chosen (is 1)
abbrev pub Plan : Type 0
Plan = List Bool

-- a row as a list of terms between its bounds, if it has them
pub record LinearRow : Type 0 where
  pub least : Option ℤ
  pub most : Option ℤ
  pub terms : List Multiple

-- the row that the program holds
abbrev pub row_in : Row → LinearRow
row_in r = record { least = r.least; most = r.most; terms = r.terms.items }

-- a number if it is chosen, otherwise 0
abbrev pub if_chosen : Bool → ℤ → ℤ
if_chosen chosen z = if chosen then z else pos 0

-- the sum of the coefficients of the variables that the plan chooses
abbrev pub total : Plan → List Multiple → ℤ
total plan [] = pos 0
total plan (t ∷ terms) = if_chosen (slice_index_or plan t.of false) t.times +ℤ total plan terms

-- the number is at least, or at most, a bound if there is one
abbrev pub IsAtLeast : Option ℤ → ℤ → Type 0
IsAtLeast None z = Unit {0}
IsAtLeast (Some bound) z = bound ≤ℤ z

abbrev pub IsAtMost : Option ℤ → ℤ → Type 0
IsAtMost None z = Unit {0}
IsAtMost (Some bound) z = z ≤ℤ bound

-- the plan's sum is within the row's bounds
pub record Meets (plan : Plan) (row : LinearRow) : Type 0 where
  pub least : IsAtLeast row.least (total plan row.terms)
  pub most : IsAtMost row.most (total plan row.terms)

-- a plan for n variables that meets each row
pub record IsPlan (n : ℕ) (rows : List LinearRow) (plan : Plan) : Type 0 where
  pub long : length plan ≡ n
  pub meets : All (Meets plan) rows

-- no plan for n variables meets each row
abbrev pub NoPlan : ℕ → List LinearRow → Type 0
NoPlan n rows = (plan : Plan) → ¬ IsPlan n rows plan

-- the row with this number; the empty row where there is none
abbrev pub row_at : List LinearRow → ℕ → LinearRow
row_at rows k = slice_index_or rows k (record { least = None; most = None; terms = [] })

-- the bound that holds for so many times the row: the lower one if they are above 0, the upper one if
-- they are below 0, and 0 for no times
abbrev pub side_of : LinearRow → ℤ → Option ℤ
side_of row (pos zero) = Some (pos 0)
side_of row (pos (suc times)) = row.least
side_of row (negsuc times) = row.most
