use Rattle.std.proofs.Common.{ℕ, ◌<◌, ◌≤◌, ◌*◌}
use Rattle.double_checker.specs.inside.Pairs.{at}
use Rattle.double_checker.specs.inside.Sizes.{size_of}
use Rattle.double_checker.proofs.margins.are_blocks_within.Given as goal

abbrev pub invariant-loop-b : goal.invariant-loop-b
invariant-loop-b l = (k : ℕ) → k < l.b * 8 → size_of (at l.costs k) ≤ size_of l.limit
