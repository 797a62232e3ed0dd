use Rattle.double_checker.specs.inside.Halls.{AreRowsNamed}
use Rattle.double_checker.proofs.hall_rows.are_rows_named.Given as goal

abbrev pub invariant-loop-i : goal.invariant-loop-i
invariant-loop-i l = AreRowsNamed l.costs l.persons l.named l.i
