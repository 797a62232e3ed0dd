use Rattle.std.proofs.Common.{drop}
use Rattle.row_checker.proofs.Weighing.{IsAdding}
use Rattle.row_checker.proofs.sums.add_terms.Given as goal

abbrev pub invariant-loop-term : goal.invariant-loop-term
invariant-loop-term l = IsAdding l.initial.weights l.weights l.times l.terms (drop l.term-index l.terms)
