use Rattle.std.proofs.Common.{ℕ, pos, ◌<◌, get_or}
use Rattle.plan_checker.specs.inside.Rises.{Rises}
use Rattle.plan_checker.proofs.pairs.pairs_rise.Given as goal

abbrev pub invariant-loop-k : goal.invariant-loop-k
invariant-loop-k l = (q : ℕ) → q < l.k → Rises l.plan (get_or l.pairs.persons.now q 0) (get_or l.pairs.objects.now q 0) (get_or l.pairs.costs.now q (pos 0))
