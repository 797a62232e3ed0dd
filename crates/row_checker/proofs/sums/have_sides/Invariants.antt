use Rattle.std.proofs.Common.{◌≡◌, drop, map}
use Rattle.row_checker.specs.Leaves.{has_sides}
use Rattle.row_checker.specs.Rows.{row_in}
use Rattle.row_checker.proofs.sums.have_sides.Given as goal

-- the multiples so far take bounds that are there
abbrev pub invariant-loop-multiple : goal.invariant-loop-multiple
invariant-loop-multiple l = has_sides (map row_in l.rows) (drop l.multiple-index l.multiples) ≡ has_sides (map row_in l.rows) l.multiples
