use Rattle.std.proofs.Common.{map}
use Rattle.cost_lists.proofs.Owns.{AreOwnSoFar}
use Rattle.wide_checker.specs.declared.numbers.TheConstants.{UNLISTED}
use Rattle.wide_checker.specs.WideNumbers.{wide_value}
use Rattle.wide_checker.proofs.own.set_of_pairs.Given as goal

abbrev pub invariant-loop-k : goal.invariant-loop-k
invariant-loop-k l = AreOwnSoFar UNLISTED l.sense l.pairs.persons.now l.pairs.objects.now (map wide_value l.pairs.costs.now) l.objects l.k l.own
