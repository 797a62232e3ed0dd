use Rattle.std.proofs.Common.{ℕ, ◌<◌}
use Rattle.double_checker.specs.inside.Plans.{IsOwn}
use Rattle.double_checker.proofs.objects.first_unlisted.Given as goal

abbrev pub invariant-loop-i : goal.invariant-loop-i
invariant-loop-i l = (k : ℕ) → k < l.i → IsOwn l.m l.costs l.objects k
