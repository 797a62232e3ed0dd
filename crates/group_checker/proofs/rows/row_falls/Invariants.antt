use Rattle.std.proofs.Common.{◌≤◌, ◌-◌, length}
use Rattle.group_checker.specs.inside.Reading.{PartFalls}
use Rattle.group_checker.proofs.rows.row_falls.Given as goal

-- the numbers of all passed objects fall
abbrev pub invariant-loop-at : goal.invariant-loop-at
invariant-loop-at l = record {
  within : l.at ≤ length l.row;
  falls : PartFalls l.plan l.row l.sum l.group 0 l.at;
}

abbrev pub decreases-loop-at : goal.decreases-loop-at
decreases-loop-at l = length l.row - l.at
