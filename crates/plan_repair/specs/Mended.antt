-- A mended plan over all costs of persons and objects.
use Rattle.std.specs.Prelude.{◌≡◌, ℕ, ℤ, List, length, All}
use Rattle.assign_core.specs.declared.sense.Sense.{Sense}
use Rattle.assign_core.specs.Assignment.{total}
use Rattle.assign_core.specs.Dense.{rows_cut}
use Rattle.assign_core.specs.Rows.{IsCost}
use Rattle.cost_lists.specs.Exact.{IsOptimum}
use Rattle.plan_repair.specs.declared.mended.Mended.{Mended}

-- all costs are in range, and the plan is best with its prices, at this cost
pub record IsMended (sense : Sense) (n m : ℕ) (costs : List ℤ) (mended : Mended) : Type 0 where
  pub costs_in : All IsCost costs
  pub objects : length mended.objects.items ≡ n
  pub prices : length mended.prices.items ≡ m
  pub best : IsOptimum (record { sense = sense; m = m; rows = rows_cut m n costs }) mended.objects.items mended.prices.items
  pub sum : mended.total ≡ total (rows_cut m n costs) mended.objects.items
