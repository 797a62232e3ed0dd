use Rattle.std.proofs.Common.{ℕ, pos, ◌<◌, get_or}
use Rattle.cost_lists.specs.Exact.{IsPriceInLimits}
use Rattle.plan_checker.proofs.further.are_in_limits.Given as goal

abbrev pub invariant-loop-k : goal.invariant-loop-k
invariant-loop-k l = (q : ℕ) → q < l.k → IsPriceInLimits (get_or l.prices q (pos 0))
