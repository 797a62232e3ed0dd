use Rattle.std.proofs.Common.{ℕ, ◌<◌, IsSome}
use Rattle.std.specs.List.{All}
use Rattle.assign_core.specs.declared.numbers.TheConstants.{MOST_PERSONS}
use Rattle.assign_core.specs.Sparse.{IsTriple, least_given}
use Rattle.auction_tests.proofs.refuting.star.Given as goal

-- each person passed is given the object of its own number
abbrev pub invariant-loop-i : goal.invariant-loop-i
invariant-loop-i l = record {
  triples : All (IsTriple MOST_PERSONS) l.triples.items;
  given : (k : ℕ) → 1 < k → k < l.i → IsSome (least_given l.triples.items k k);
}
