use Rattle.double_checker.specs.inside.Halls.{AreAllowed}
use Rattle.double_checker.proofs.hall_rows.are_listed.Given as goal

abbrev pub invariant-loop-q : goal.invariant-loop-q
invariant-loop-q l = AreAllowed l.m l.costs l.persons l.objects l.q
