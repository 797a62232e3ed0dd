use Rattle.std.proofs.Common.{◌≡◌, pos, ◌+ℤ◌, ◌*ℤ◌, ◌≤ℤ◌, drop}
use Rattle.assign_core.specs.declared.numbers.TheConstants.{GREATEST_COST}
use Rattle.assign_core.specs.Assignment.{total}
use Rattle.auction_command.specs.Findings.{objects_of}
use Rattle.auction_command.proofs.verify.sum_of.Given as goal

-- the sum so far and the total of what is left are the whole total
abbrev pub invariant-loop-cost : goal.invariant-loop-cost
invariant-loop-cost l = record {
  whole : l.sum +ℤ total (drop l.cost-index l.problem) (drop l.cost-index (objects_of l.pairs)) ≡ total l.problem (objects_of l.pairs);
  low : pos 0 ≤ℤ (l.sum +ℤ (pos l.cost-index *ℤ GREATEST_COST));
  high : l.sum ≤ℤ (pos l.cost-index *ℤ GREATEST_COST);
}
