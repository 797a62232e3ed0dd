use Rattle.double_checker.specs.inside.Pairs.{paid}
use Rattle.block_doubles.specs.inside.Places.{NoneBelow}
use Rattle.block_doubles.proofs.better.first_under.Given as goal

abbrev pub invariant-loop-k : goal.invariant-loop-k
invariant-loop-k l = NoneBelow l.sense (paid l.sense l.number_cost l.number_price) l.row l.prices l.k
