use Rattle.std.proofs.Common.{map}
use Rattle.wide_checker.specs.WideNumbers.{wide_value}
use Rattle.exact_checker.proofs.Earliest.{IsFirstSoFar}
use Rattle.exact_checker.proofs.PairSums.{IsUnderAt}
use Rattle.wide_checker.proofs.pairs.first_of_pairs.Given as goal

abbrev pub invariant-loop-k : goal.invariant-loop-k
invariant-loop-k l =
    IsFirstSoFar l.pairs.persons.now l.pairs.objects.now (IsUnderAt l.sense l.pairs.persons.now l.pairs.objects.now
    (map wide_value l.pairs.costs.now) (map wide_value l.prices) l.values) l.k l.first
