use Rattle.c_wide.specs.fewest.Tight.{AreNoted, IsIn}
use Rattle.c_wide.proofs.fewest.tight.note_part.Given as goal

-- the passed objects are noted, and what was noted before stays
abbrev pub invariant-loop-j : goal.invariant-loop-j
invariant-loop-j l = record {
  noted : AreNoted l.sense l.row l.prices l.value l.person l.j l.tight.items;
  before : IsIn l.initial.tight.items l.tight.items;
}
