use Rattle.plan_checker.specs.inside.Rises.{PartRises}
use Rattle.plan_checker.proofs.rows.part_rises.Given as goal

abbrev pub invariant-loop-j : goal.invariant-loop-j
invariant-loop-j l = PartRises l.plan l.person l.row l.from l.j
