use Rattle.std.proofs.Common.{drop, map}
use Rattle.row_checker.specs.Rows.{row_in}
use Rattle.row_checker.proofs.Weighing.{IsBounding}
use Rattle.row_checker.proofs.sums.bound_of.Given as goal

abbrev pub invariant-loop-multiple : goal.invariant-loop-multiple
invariant-loop-multiple l = IsBounding (map row_in l.rows) l.sum l.multiples (drop l.multiple-index l.multiples)
