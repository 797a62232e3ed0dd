use Rattle.c_wide.specs.fewest.Priced.{AreNear}
use Rattle.c_wide.proofs.fewest.priced.are_near.Given as goal

abbrev pub invariant-loop-j : goal.invariant-loop-j
invariant-loop-j l = AreNear l.n l.by l.first l.j l.prices
