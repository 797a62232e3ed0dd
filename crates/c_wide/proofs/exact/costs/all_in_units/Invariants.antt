use Rattle.std.proofs.Common.{take}
use Rattle.c_wide.specs.exact.Costs.{AreInUnits}
use Rattle.c_wide.proofs.exact.costs.all_in_units.Given as goal

abbrev pub invariant-loop-k : goal.invariant-loop-k
invariant-loop-k l = AreInUnits l.unit (take l.k l.costs) l.units.items
