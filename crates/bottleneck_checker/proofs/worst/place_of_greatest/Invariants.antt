use Rattle.std.proofs.Common.{ℕ, pos, ◌<◌, ◌≤ℤ◌, length, slice_index_or}
use Rattle.bottleneck_checker.proofs.worst.place_of_greatest.Given as goal

abbrev pub invariant-loop-k : goal.invariant-loop-k
invariant-loop-k l =
    (l.place < length l.costs) × ((j : ℕ) → j < l.k → slice_index_or l.costs j (pos 0) ≤ℤ slice_index_or l.costs l.place (pos 0))
