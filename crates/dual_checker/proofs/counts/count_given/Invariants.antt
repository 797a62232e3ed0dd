use Rattle.std.proofs.Common.{take}
use Rattle.dual_checker.specs.Counts.{AreCounts}
use Rattle.dual_checker.proofs.counts.count_given.Given as goal

abbrev pub invariant-loop-one : goal.invariant-loop-one
invariant-loop-one g l = AreCounts l.counts (take l.one-index (g.T.Placed.numbers_of l.given))
