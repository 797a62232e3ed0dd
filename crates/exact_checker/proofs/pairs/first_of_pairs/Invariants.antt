use Rattle.exact_checker.proofs.Earliest.{IsFirstSoFar}
use Rattle.exact_checker.proofs.PairSums.{IsUnderAt}
use Rattle.exact_checker.proofs.pairs.first_of_pairs.Given as goal

abbrev pub invariant-loop-k : goal.invariant-loop-k
invariant-loop-k l =
    IsFirstSoFar l.pairs.persons.now l.pairs.objects.now (IsUnderAt l.sense l.pairs.persons.now l.pairs.objects.now
    l.pairs.costs.now l.prices l.values) l.k l.first
