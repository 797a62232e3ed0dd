use Rattle.std.proofs.Common.{◌≡◌, ◌≤◌, take}
use Rattle.count_checker.specs.Counts.{chosen}
use Rattle.count_checker.specs.CountSets.{apart_count}
use Rattle.count_checker.specs.CountLists.{problem_in}
use Rattle.count_checker.specs.inside.Holders.{IsHolding}
use Rattle.count_checker.proofs.shortage.count_apart.Given as goal

abbrev pub invariant-loop-place : goal.invariant-loop-place
invariant-loop-place l = record {
  holding : IsHolding l.lists l.marks l.place l.holders;
  so_far : l.count ≡ apart_count l.lists.groups.now (chosen (take l.place (problem_in l.lists).pairs) (take l.place l.marks));
  few : l.count ≤ l.place;
}
