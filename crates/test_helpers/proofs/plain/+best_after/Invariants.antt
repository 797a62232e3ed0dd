use Rattle.std.proofs.Common.{length, ◌-◌}
use Rattle.test_helpers.proofs.Tried.{IsBestSoFar}
use Rattle.test_helpers.proofs.plain.+best_after.Given as goal

abbrev pub decreases-best_after : goal.decreases-best_after
decreases-best_after l = length l.problem.now - length l.front.now

abbrev pub invariant-loop-object : goal.invariant-loop-object
invariant-loop-object l = IsBestSoFar l.sense l.problem l.front l.object-items l.object-index l.best
