use Rattle.c_wide.proofs.UnitLaws.{IsUnitOfFirst}
use Rattle.c_wide.proofs.exact.unit.common_unit.Given as goal

abbrev pub invariant-loop-k : goal.invariant-loop-k
invariant-loop-k l = IsUnitOfFirst l.costs l.k l.unit
