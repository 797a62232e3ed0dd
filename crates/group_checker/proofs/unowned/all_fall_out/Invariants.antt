use Rattle.std.proofs.Common.{ℕ, ◌<◌}
use Rattle.group_checker.specs.inside.Reading.{FallsOutAt}
use Rattle.group_checker.proofs.unowned.all_fall_out.Given as goal

abbrev pub invariant-loop-j : goal.invariant-loop-j
invariant-loop-j l = (k : ℕ) → k < l.j → FallsOutAt l.plan k
