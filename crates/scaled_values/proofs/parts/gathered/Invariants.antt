use Rattle.std.proofs.Common.{◌≡◌, ◌++◌, ◌≤◌, ℕ, List, Option, drop, map, get_or, length, vec_len, vec_capacity}
use Rattle.std.specs.List.{All}
use Rattle.assign_core.specs.declared.sense.Sense.{Sense}
use Rattle.assign_core.specs.Rows.{Listing}
use Rattle.assign_core.specs.Benefits.{benefit_rows}
use Rattle.scaled_values.specs.Scaled.{values_in}
use Rattle.scaled_values.specs.declared.parts.MadeRow.{MadeRow}
use Rattle.scaled_values.specs.inside.Made.{AreMade}
use Rattle.scaled_values.specs.inside.Range.{no_range, range_with}
use Rattle.scaled_values.specs.inside.Stored.{stored_entries, HasStoredForm}
use Rattle.scaled_values.proofs.Ranges.{IsWide}
use Rattle.scaled_values.proofs.parts.gathered.Given as goal

-- the rows so far and those to come are all, and there is room for these
abbrev pub invariant-loop-i : goal.invariant-loop-i
invariant-loop-i l = record {
  made : (sense : Sense) (rows : List Listing) → length l.fn.places ≡ length rows → AreMade sense rows l.fn.places →
      (map stored_entries l.rows.items ++ drop l.i (benefit_rows sense rows) ≡ benefit_rows sense rows)
      × All (HasStoredForm (length rows)) l.rows.items
      × (range_with l.range (values_in (drop l.i (benefit_rows sense rows))) ≡ range_with no_range (values_in (benefit_rows sense rows)));
  wide : IsWide l.range;
  rest : (k : ℕ) (d : Option MadeRow) → l.i ≤ k → get_or l.places k d ≡ get_or l.fn.places k d;
  long : vec_len l.rows ≡ l.i;
  room : vec_capacity l.rows ≡ length l.fn.places;
}
