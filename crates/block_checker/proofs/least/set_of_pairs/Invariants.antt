use Rattle.block_checker.specs.inside.Least.{AreLeastOf}
use Rattle.block_checker.proofs.least.set_of_pairs.Given as goal

abbrev pub invariant-loop-k : goal.invariant-loop-k
invariant-loop-k l = AreLeastOf l.sense l.pairs l.prices l.k l.least
