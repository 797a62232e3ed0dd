use Rattle.std.proofs.Common.{ℕ, ◌<◌, IsTrue, get_or}
use lib.Ieee.{nan}
use Rattle.double_costs.specs.DoubleRows.{is_cost}
use Rattle.double_costs.proofs.faults.first_fault.Given as goal

abbrev pub invariant-loop-k : goal.invariant-loop-k
invariant-loop-k l = (i : ℕ) → i < l.k → IsTrue (is_cost l.sense (get_or l.costs i nan))
