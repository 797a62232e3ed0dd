use Rattle.std.proofs.Common.{ℕ, pos, ◌<◌, slice_index_or}
use Rattle.assign_core.specs.Rows.{IsCost}
use Rattle.list_tests.proofs.exact.given.are_costs.Given as goal

abbrev pub invariant-loop-cost : goal.invariant-loop-cost
invariant-loop-cost l = (k : ℕ) → k < l.cost-index → IsCost (slice_index_or l.costs k (pos 0))
