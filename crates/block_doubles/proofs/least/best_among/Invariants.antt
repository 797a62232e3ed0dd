use Rattle.block_doubles.specs.inside.Places.{IsBestFrom}
use Rattle.block_doubles.proofs.least.best_among.Given as goal

abbrev pub invariant-loop-k : goal.invariant-loop-k
invariant-loop-k l = IsBestFrom l.sense l.guess l.row l.prices l.k l.best
