-- The least costs of plans.
use Rattle.std.specs.Prelude.{ℕ, ℤ, pos, ◌+ℤ◌, ◌≤ℤ◌, List, [], ◌∷◌, ◌++◌}
use Rattle.row_checker.specs.declared.row.Multiple.{Multiple}
use Rattle.row_checker.specs.Rows.{IsPlan, LinearRow, NoPlan, Plan, total}
use Rattle.row_checker.specs.Trees.{low_row}

-- each plan that meets the rows costs at least the bound
abbrev pub CostAtLeast : ℤ → ℕ → List LinearRow → List Multiple → Type 0
CostAtLeast bound n rows costs = (plan : Plan) → IsPlan n rows plan → bound ≤ℤ total plan costs

-- where no plan meets the rows and costs at most a bound, each that meets the rows costs at least 1 more
abbrev pub NoneIsCheaper : Type 0
NoneIsCheaper =
    (n : ℕ) (rows : List LinearRow) (costs : List Multiple) (bound : ℤ) → NoPlan n (rows ++ low_row costs bound ∷ []) →
    CostAtLeast (bound +ℤ pos 1) n rows costs
