use Rattle.double_checker.proofs.Given.{AreGiven, AreMarked}
use Rattle.double_checker.proofs.hall_rows.mark_each.Given as goal

abbrev pub invariant-loop-i : goal.invariant-loop-i
invariant-loop-i l = record {
  given : AreGiven l.named l.objects l.i;
  marked : AreMarked l.named l.objects l.i;
}
