use Rattle.std.proofs.Common.{ℕ, pos, ◌<◌, length, get_or}
use Rattle.cost_lists.specs.Source.{part_of}
use Rattle.block_checker.specs.inside.Least.{IsLeastOfRow}
use Rattle.block_checker.proofs.least.set_of_rows.Given as goal

-- the sums of the passed rows
abbrev pub invariant-loop-i : goal.invariant-loop-i
invariant-loop-i l =
    (k : ℕ) → k < l.i → IsLeastOfRow l.sense (part_of (length l.prices) k l.costs) l.prices (length l.prices) (get_or l.least k (pos 0))
