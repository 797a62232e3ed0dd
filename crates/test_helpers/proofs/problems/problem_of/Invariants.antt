use Rattle.std.specs.List.{All}
use Rattle.assign_core.specs.Sparse.{IsTriple}
use Rattle.test_helpers.proofs.problems.problem_of.Given as goal

abbrev pub invariant-loop-pair : goal.invariant-loop-pair
invariant-loop-pair l = All (IsTriple l.n) l.triples.items
