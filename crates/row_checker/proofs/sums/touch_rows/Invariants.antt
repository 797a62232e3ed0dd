use Rattle.std.proofs.Common.{◌≡◌, ◌++◌, drop, map}
use Rattle.row_checker.specs.Leaves.{touched_by}
use Rattle.row_checker.specs.Rows.{row_in}
use Rattle.row_checker.proofs.sums.touch_rows.Given as goal

-- the variables so far and those of the rows that are left
abbrev pub invariant-loop-multiple : goal.invariant-loop-multiple
invariant-loop-multiple l =
    l.touched.items ++ touched_by (map row_in l.rows) (drop l.multiple-index l.multiples) ≡ l.initial.touched.items
    ++ touched_by (map row_in l.rows) l.multiples
