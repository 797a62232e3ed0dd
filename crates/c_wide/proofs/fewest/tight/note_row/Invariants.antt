use Rattle.std.proofs.Common.{◌≤◌, ◌-◌, length}
use Rattle.c_wide.specs.fewest.Tight.{AreNoted, IsIn}
use Rattle.c_wide.proofs.fewest.tight.note_row.Given as goal

-- the passed objects are noted, and what was noted before stays
abbrev pub invariant-loop-at : goal.invariant-loop-at
invariant-loop-at l = record {
  within : l.at ≤ length l.row;
  noted : AreNoted l.sense l.row l.prices l.value l.person l.at l.tight.items;
  before : IsIn l.initial.tight.items l.tight.items;
}

abbrev pub decreases-loop-at : goal.decreases-loop-at
decreases-loop-at l = length l.row - l.at
