use Rattle.std.proofs.Common.{◌≡◌, ◌++◌, drop, map, length, vec_len, vec_capacity}
use Rattle.assign_core.specs.Benefits.{benefit_row}
use Rattle.scaled_values.specs.inside.Range.{range_with}
use Rattle.scaled_values.proofs.row.benefits_of.Given as goal

-- the benefits so far and those to come are all, and there is room for these
abbrev pub invariant-loop-cost : goal.invariant-loop-cost
invariant-loop-cost l = record {
  benefits : l.benefits.items ++ map (λ e. e.1) (benefit_row l.sense l.n (drop l.cost-index l.row)) ≡ map (λ e. e.1) (benefit_row l.sense l.n l.row);
  range : range_with l.range (map (λ e. e.1) (benefit_row l.sense l.n (drop l.cost-index l.row)))
      ≡ range_with l.fn.range (map (λ e. e.1) (benefit_row l.sense l.n l.row));
  long : vec_len l.benefits ≡ l.cost-index;
  room : vec_capacity l.benefits ≡ length l.row;
}
