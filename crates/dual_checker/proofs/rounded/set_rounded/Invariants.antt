use Rattle.std.proofs.Common.{ℕ, pos, ◌<◌, length, slice_index_or}
use Rattle.dual_checker.proofs.RoundedSums.{IsRoundedOf}
use Rattle.dual_checker.proofs.rounded.set_rounded.Given as goal

-- the passed rounded are set
abbrev pub invariant-loop-i : goal.invariant-loop-i
invariant-loop-i l = (k : ℕ) → k < l.i → IsRoundedOf (length l.prices) (slice_index_or l.prices k (pos 0)) (slice_index_or l.rounded k (pos 0))
