use Rattle.std.proofs.Common.{IsTrue}
use Rattle.plan_checker.specs.inside.Rises.{AllReach}
use Rattle.plan_checker.proofs.rows.all_reach.Given as goal

abbrev pub invariant-loop-j : goal.invariant-loop-j
invariant-loop-j l = IsTrue l.all → AllReach l.plan l.row l.sum l.from l.j
