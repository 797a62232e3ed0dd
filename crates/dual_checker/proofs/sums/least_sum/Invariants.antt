use Rattle.std.proofs.Common.{ℕ, ℤ, ◌<◌, ◌+ℤ◌, ◌≤ℤ◌, slice_index_or}
use Rattle.assign_core.specs.Prices.{price_of}
use Rattle.dual_checker.specs.inside.Rounded.{minimised}
use Rattle.dual_checker.proofs.sums.least_sum.Given as goal

-- no passed sum is less
abbrev pub invariant-loop-object : goal.invariant-loop-object
invariant-loop-object l =
    (k : ℕ) (e : ℕ × ℤ) → k < l.object-index →
    l.least ≤ℤ (minimised l.sense (slice_index_or l.pairs k e).1 +ℤ price_of l.rounded
    (slice_index_or l.pairs k e).0)
