use Rattle.std.proofs.Common.{◌≡◌, ◌++◌, drop, map, length, vec_len, vec_capacity}
use Rattle.std.specs.List.{All}
use Rattle.assign_core.specs.Benefits.{benefit_rows}
use Rattle.scaled_values.specs.Scaled.{values_in}
use Rattle.scaled_values.specs.inside.Range.{no_range, range_with}
use Rattle.scaled_values.specs.inside.Stored.{stored_entries, HasStoredForm}
use Rattle.scaled_values.proofs.scaled.stored_rows.Given as goal

-- the rows so far and those to come are all, and there is room for these
abbrev pub invariant-loop-i : goal.invariant-loop-i
invariant-loop-i l = record {
  entries : map stored_entries l.rows.items ++ drop l.i (benefit_rows l.sense l.problem) ≡ benefit_rows l.sense l.problem;
  form : All (HasStoredForm (length l.problem)) l.rows.items;
  range : range_with l.range (values_in (drop l.i (benefit_rows l.sense l.problem))) ≡ range_with no_range (values_in (benefit_rows l.sense l.problem));
  long : vec_len l.rows ≡ l.i;
  room : vec_capacity l.rows ≡ length l.problem;
}
