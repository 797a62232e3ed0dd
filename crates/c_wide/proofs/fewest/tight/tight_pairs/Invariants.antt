use Rattle.c_wide.specs.fewest.Tight.{AreTight}
use Rattle.c_wide.proofs.fewest.tight.tight_pairs.Given as goal

-- the passed persons' pairs are noted
abbrev pub invariant-loop-i : goal.invariant-loop-i
invariant-loop-i l = AreTight l.sense l.costs l.prices l.values l.i l.tight.items
