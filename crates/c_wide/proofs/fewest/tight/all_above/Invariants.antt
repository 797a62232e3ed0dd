use Rattle.std.proofs.Common.{IsTrue}
use Rattle.c_wide.specs.fewest.Tight.{AreAbove}
use Rattle.c_wide.proofs.fewest.tight.all_above.Given as goal

abbrev pub invariant-loop-j : goal.invariant-loop-j
invariant-loop-j l = IsTrue l.all → AreAbove l.sense l.row l.prices l.value l.from l.j
