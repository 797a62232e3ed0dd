use Rattle.std.proofs.Common.{IsTrue}
use Rattle.group_checker.specs.inside.Reading.{PartFalls}
use Rattle.group_checker.proofs.rows.part_falls.Given as goal

-- where all that was read falls, the number of no passed object that is as good is higher
abbrev pub invariant-loop-j : goal.invariant-loop-j
invariant-loop-j l = IsTrue l.all → PartFalls l.plan l.row l.sum l.group l.from l.j
