use Rattle.std.proofs.Common.{◌≡◌, take, pos, ◌+ℤ◌, ◌*ℤ◌, ◌≤ℤ◌}
use Rattle.assign_core.specs.declared.numbers.TheConstants.{GREATEST_COST}
use Rattle.count_checker.specs.Counts.{chosen, cost_of}
use Rattle.count_checker.specs.CountLists.{problem_in}
use Rattle.count_checker.proofs.total.sum_of.Given as goal

abbrev pub invariant-loop-place : goal.invariant-loop-place
invariant-loop-place l = record {
  so_far : l.sum ≡ cost_of (chosen (take l.place (problem_in l.lists).pairs) (take l.place l.plan));
  low : pos 0 ≤ℤ (l.sum +ℤ (pos l.place *ℤ GREATEST_COST));
  high : l.sum ≤ℤ (pos l.place *ℤ GREATEST_COST);
}
