use Rattle.std.proofs.Common.{IsTrue}
use Rattle.group_checker.specs.inside.Reading.{AllExceed}
use Rattle.group_checker.proofs.rows.all_exceed.Given as goal

abbrev pub invariant-loop-j : goal.invariant-loop-j
invariant-loop-j l = IsTrue l.all → AllExceed l.plan l.row l.sum l.from l.j
