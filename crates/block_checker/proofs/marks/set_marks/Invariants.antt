use Rattle.block_checker.specs.inside.Marks.{AreMarksOf}
use Rattle.block_checker.proofs.marks.set_marks.Given as goal

abbrev pub invariant-loop-i : goal.invariant-loop-i
invariant-loop-i l = AreMarksOf l.own l.objects l.numbers l.prices l.i l.marks
