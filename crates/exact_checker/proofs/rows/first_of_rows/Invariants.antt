use Rattle.exact_checker.proofs.RowSums.{NoneUnder}
use Rattle.exact_checker.proofs.rows.first_of_rows.Given as goal

abbrev pub invariant-loop-i : goal.invariant-loop-i
invariant-loop-i l = NoneUnder l.sense l.costs l.prices l.values l.i
