use Rattle.std.proofs.Common.{ℕ, ◌<◌}
use Rattle.plan_checker.specs.inside.Rises.{IsFreeAt}
use Rattle.plan_checker.proofs.free.are_free.Given as goal

abbrev pub invariant-loop-j : goal.invariant-loop-j
invariant-loop-j l = (k : ℕ) → k < l.j → IsFreeAt l.owned l.plan k
