use Rattle.double_checker.specs.inside.Halls.{IsRowNamed}
use Rattle.double_checker.proofs.hall_rows.is_row_named.Given as goal

abbrev pub invariant-loop-j : goal.invariant-loop-j
invariant-loop-j l = IsRowNamed l.row l.named l.j
