use Rattle.std.proofs.Common.{ℕ, ℤ, ◌<◌, slice_index_or}
use Rattle.dual_checker.proofs.Worths.{IsUnder}
use Rattle.dual_checker.proofs.slack.first_broken.Given as goal

abbrev pub invariant-loop-i : goal.invariant-loop-i
invariant-loop-i l = (k : ℕ) (e : ℕ × ℤ) → k < l.i → IsUnder l.sense l.n l.prices l.own_worth (slice_index_or l.row k e)
