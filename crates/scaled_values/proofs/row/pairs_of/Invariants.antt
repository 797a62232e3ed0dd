use Rattle.std.proofs.Common.{◌≡◌, ◌++◌, drop, map, length, vec_len, vec_capacity}
use Rattle.assign_core.specs.Benefits.{benefit_row}
use Rattle.scaled_values.specs.inside.Range.{range_with}
use Rattle.scaled_values.proofs.row.pairs_of.Given as goal

-- the pairs so far and those to come are all, and there is room for these
abbrev pub invariant-loop-object : goal.invariant-loop-object
invariant-loop-object l = record {
  pairs : l.pairs.items ++ benefit_row l.sense l.n (drop l.object-index l.row) ≡ benefit_row l.sense l.n l.row;
  range : range_with l.range (map (λ e. e.1) (benefit_row l.sense l.n (drop l.object-index l.row)))
      ≡ range_with l.fn.range (map (λ e. e.1) (benefit_row l.sense l.n l.row));
  long : vec_len l.pairs ≡ l.object-index;
  room : vec_capacity l.pairs ≡ length l.row;
}
