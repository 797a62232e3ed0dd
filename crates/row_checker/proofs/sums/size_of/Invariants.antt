use Rattle.std.proofs.Common.{◌≡◌, ◌+◌, ◌-◌, ◌^◌, ◌<◌, min, drop, map}
use Rattle.row_checker.specs.Leaves.{size}
use Rattle.row_checker.specs.Rows.{row_in}
use Rattle.row_checker.proofs.sums.size_of.Given as goal

-- the sum so far with what is left, as far as they fit
abbrev pub invariant-loop-multiple : goal.invariant-loop-multiple
invariant-loop-multiple l =
    (min (l.sum + size (map row_in l.rows) (drop l.multiple-index l.multiples)) (2 ^ 128 - 1) ≡ min
    (size (map row_in l.rows) l.multiples) (2 ^ 128 - 1)) × (l.sum < 2 ^ 128)
