use Rattle.std.proofs.Common.{ℕ, pos, ◌<◌, get_or}
use Rattle.group_checker.specs.inside.Reading.{Falls}
use Rattle.group_checker.proofs.falls.pairs_fall.Given as goal

abbrev pub invariant-loop-k : goal.invariant-loop-k
invariant-loop-k l = (q : ℕ) → q < l.k → Falls l.plan (get_or l.pairs.persons.now q 0) (get_or l.pairs.objects.now q 0) (get_or l.pairs.costs.now q (pos 0))
