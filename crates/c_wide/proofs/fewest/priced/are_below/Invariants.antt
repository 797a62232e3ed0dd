use Rattle.c_wide.specs.fewest.Priced.{AreBelow}
use Rattle.c_wide.proofs.fewest.priced.are_below.Given as goal

abbrev pub invariant-loop-i : goal.invariant-loop-i
invariant-loop-i l = AreBelow l.n l.by l.values l.i l.levels
