use Rattle.std.proofs.Common.{map}
use Rattle.exact_checker.proofs.RowSums.{NoneUnder}
use Rattle.wide_checker.specs.WideNumbers.{wide_value}
use Rattle.wide_checker.proofs.rows.first_of_rows.Given as goal

abbrev pub invariant-loop-i : goal.invariant-loop-i
invariant-loop-i l = NoneUnder l.sense (map wide_value l.costs) (map wide_value l.prices) l.values l.i
