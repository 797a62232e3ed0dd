use Rattle.block_doubles.specs.inside.Places.{AreAbove}
use Rattle.block_doubles.proofs.better.first_better.Given as goal

abbrev pub invariant-loop-i : goal.invariant-loop-i
invariant-loop-i l = AreAbove l.sense l.costs l.prices l.number_costs l.number_prices l.i
