use Rattle.std.proofs.Common.{ℕ, ◌<◌, ◌≤◌}
use Rattle.double_checker.specs.inside.Pairs.{at}
use Rattle.double_checker.specs.inside.Sizes.{size_of}
use Rattle.double_checker.proofs.margins.are_within.Given as goal

abbrev pub invariant-loop-k : goal.invariant-loop-k
invariant-loop-k l = (k : ℕ) → k < l.k → size_of (at l.costs k) ≤ size_of l.limit
