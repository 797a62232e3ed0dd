use Rattle.std.proofs.Common.{ℕ, ◌<◌, ◌+◌, length}
use Rattle.cost_lists.specs.Source.{part_of}
use Rattle.group_checker.specs.inside.Reading.{RowFalls}
use Rattle.group_checker.proofs.rows.rows_fall.Given as goal

abbrev pub invariant-loop-i : goal.invariant-loop-i
invariant-loop-i l = (k : ℕ) → k < l.i → RowFalls l.plan (k + 1) (part_of (length l.plan.prices.now) k l.costs)
