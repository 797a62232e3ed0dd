use Rattle.std.proofs.Common.{◌<◌, length}
use Rattle.hungarian.specs.inside.Plans.{at, int_at}
use Rattle.hungarian.proofs.Nearest.{IsBestOf}
use Rattle.hungarian.proofs.relaxing.nearest.Given as goal

-- the best of the passed objects that wait
abbrev pub invariant-loop-j : goal.invariant-loop-j
invariant-loop-j l = record {
  within : l.best < length l.to_objects;
  best : IsBestOf (int_at l.prices) (int_at l.to_objects) (at l.predecessors) (at l.ranks) l.j l.best;
}
