use Rattle.std.proofs.Common.{◌≡◌, take, pos, ◌+ℤ◌, ◌*ℤ◌, ◌≤ℤ◌, fold}
use Rattle.assign_core.specs.declared.numbers.TheConstants.{GREATEST_COST}
use Rattle.cost_lists.proofs.total.sum_of.Given as goal

abbrev pub invariant-loop-cost : goal.invariant-loop-cost
invariant-loop-cost l = record {
  so_far : l.sum ≡ fold ◌+ℤ◌ (pos 0) (take l.cost-index l.costs);
  low : pos 0 ≤ℤ (l.sum +ℤ (pos l.cost-index *ℤ GREATEST_COST));
  high : l.sum ≤ℤ (pos l.cost-index *ℤ GREATEST_COST);
}
