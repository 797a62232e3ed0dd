use Rattle.std.proofs.Common.{◌≡◌, take, pos, ◌+ℤ◌, ◌*ℤ◌, ◌≤ℤ◌, fold}
use Rattle.wide_checker.specs.declared.numbers.TheConstants.{GREATEST_WIDE_COST}
use Rattle.wide_checker.proofs.total.sum_of_costs.Given as goal

abbrev pub invariant-loop-cost : goal.invariant-loop-cost
invariant-loop-cost l = record {
  so_far : l.sum ≡ fold ◌+ℤ◌ (pos 0) (take l.cost-index l.costs);
  low : pos 0 ≤ℤ (l.sum +ℤ (pos l.cost-index *ℤ GREATEST_WIDE_COST));
  high : l.sum ≤ℤ (pos l.cost-index *ℤ GREATEST_WIDE_COST);
}
