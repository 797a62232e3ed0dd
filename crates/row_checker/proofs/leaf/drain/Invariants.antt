use Rattle.std.proofs.Common.{drop}
use Rattle.row_checker.proofs.Draining.{IsDraining}
use Rattle.row_checker.proofs.leaf.drain.Given as goal

abbrev pub invariant-loop-variable : goal.invariant-loop-variable
invariant-loop-variable l = IsDraining l.initial.weights l.weights l.sum (drop l.variable-index l.touched)
