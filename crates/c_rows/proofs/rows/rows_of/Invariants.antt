use Rattle.std.proofs.Common.{◌≡◌, map}
use Rattle.row_checker.specs.Rows.{row_in}
use Rattle.c_rows.specs.Input.{rows_of}
use Rattle.c_rows.proofs.rows.rows_of.Given as goal

abbrev pub invariant-loop-r : goal.invariant-loop-r
invariant-loop-r l = map row_in l.rows.items ≡ rows_of l.input l.r
