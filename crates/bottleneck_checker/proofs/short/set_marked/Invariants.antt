use Rattle.std.proofs.Common.{◌≡◌, ℕ, pos, ◌<◌, ◌≤◌, false, length, slice_index_or, cond}
use Rattle.bottleneck_checker.proofs.short.set_marked.Given as goal

abbrev pub invariant-loop-k : goal.invariant-loop-k
invariant-loop-k l =
    (length l.list ≡ length l.initial.list)
    × ((j : ℕ) → j < l.k → slice_index_or l.list j (pos 0) ≡ cond (slice_index_or l.marks j false) l.value (slice_index_or l.initial.list j (pos 0)))
    × ((j : ℕ) → l.k ≤ j → slice_index_or l.list j (pos 0) ≡ slice_index_or l.initial.list j (pos 0))
