use Rattle.std.proofs.Common.{◌≡◌, ◌+◌, ◌++◌, drop}
use Rattle.assign_core.specs.Dense.{row_from}
use Rattle.assign_core.proofs.problem.row_of_costs.Given as goal

-- the row so far and the entries to come are the whole row
abbrev pub invariant-loop-i : goal.invariant-loop-i
invariant-loop-i l = l.row.items ++ row_from (l.i + 1) (drop l.i l.costs) ≡ row_from 1 l.costs
