use Rattle.std.proofs.Common.{◌*◌}
use Rattle.block_doubles.specs.inside.Places.{IsBestFrom}
use Rattle.block_doubles.proofs.least.best_of_steps.Given as goal

abbrev pub invariant-loop-s : goal.invariant-loop-s
invariant-loop-s l = IsBestFrom l.sense l.guess l.row l.prices (l.s * 64) l.best
