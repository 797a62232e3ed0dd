use Rattle.std.specs.List.{All}
use Rattle.assign_core.specs.Sparse.{IsTriple}
use Rattle.assign_core.specs.declared.numbers.TheConstants.{MOST_PERSONS}
use Rattle.auction_tests.proofs.checking.of_one_object.Given as goal

abbrev pub invariant-loop-i : goal.invariant-loop-i
invariant-loop-i l = All (IsTriple MOST_PERSONS) l.triples.items
