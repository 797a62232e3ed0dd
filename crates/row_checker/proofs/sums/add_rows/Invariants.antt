use Rattle.std.proofs.Common.{drop, length, map}
use Rattle.row_checker.specs.Rows.{row_in}
use Rattle.row_checker.proofs.Weighing.{IsWeighing}
use Rattle.row_checker.proofs.sums.add_rows.Given as goal

abbrev pub invariant-loop-multiple : goal.invariant-loop-multiple
invariant-loop-multiple l = IsWeighing (map row_in l.rows) (length l.initial.weights) l.weights l.multiples (drop l.multiple-index l.multiples)
