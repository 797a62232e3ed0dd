use Rattle.block_checker.specs.inside.Least.{IsLeastOfRow}
use Rattle.block_checker.proofs.least.least_of_row.Given as goal

abbrev pub invariant-loop-j : goal.invariant-loop-j
invariant-loop-j l = IsLeastOfRow l.sense l.costs l.prices l.j l.least
