use Rattle.std.proofs.Common.{◌≤◌, ◌-◌, length}
use Rattle.plan_checker.specs.inside.Rises.{PartRises}
use Rattle.plan_checker.proofs.rows.row_rises.Given as goal

-- the ranks of all passed objects rise
abbrev pub invariant-loop-at : goal.invariant-loop-at
invariant-loop-at l = record {
  within : l.at ≤ length l.row;
  rise : PartRises l.plan l.person l.row 0 l.at;
}

abbrev pub decreases-loop-at : goal.decreases-loop-at
decreases-loop-at l = length l.row - l.at
