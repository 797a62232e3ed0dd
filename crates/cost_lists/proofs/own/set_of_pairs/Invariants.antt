use Rattle.cost_lists.specs.declared.numbers.TheConstants.{UNLISTED}
use Rattle.cost_lists.proofs.Owns.{AreOwnSoFar}
use Rattle.cost_lists.proofs.own.set_of_pairs.Given as goal

abbrev pub invariant-loop-k : goal.invariant-loop-k
invariant-loop-k l = AreOwnSoFar UNLISTED l.sense l.pairs.persons.now l.pairs.objects.now l.pairs.costs.now l.objects l.k l.own
