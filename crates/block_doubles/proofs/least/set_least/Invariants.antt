use Rattle.std.proofs.Common.{ℕ, ◌<◌, length, get_or}
use lib.Ieee.{nan}
use Rattle.double_checker.specs.inside.Pairs.{row_part}
use Rattle.block_doubles.specs.inside.Places.{IsLeastAt}
use Rattle.block_doubles.proofs.least.set_least.Given as goal

abbrev pub invariant-loop-i : goal.invariant-loop-i
invariant-loop-i l =
    (q : ℕ) → q < l.i → IsLeastAt l.sense (row_part (length l.prices) q l.costs) l.prices (get_or l.objects q 0) (get_or l.paid q nan)
