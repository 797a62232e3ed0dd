-- Rows of benefits that threads make.
use Rattle.std.specs.Prelude.{◌≡◌, ℕ, ◌+◌, ◌<◌, List, Option, IfSome, length, map, All, slice_index_or}
use Rattle.assign_core.specs.declared.sense.Sense.{Sense}
use Rattle.assign_core.specs.Rows.{Listing, row_of}
use Rattle.assign_core.specs.Benefits.{benefit_row, benefit_rows}
use Rattle.scaled_values.specs.Scaled.{values_in}
use Rattle.scaled_values.specs.declared.parts.MadeRow.{MadeRow}
use Rattle.scaled_values.specs.declared.range.Range.{Range}
use Rattle.scaled_values.specs.declared.row.StoredRow.{StoredRow}
use Rattle.scaled_values.specs.inside.Range.{no_range, range_with}
use Rattle.scaled_values.specs.inside.Stored.{stored_entries, HasStoredForm}

-- the benefits of the person at place i, and their range
pub record IsMadeRow (sense : Sense) (rows : List Listing) (i : ℕ) (made : MadeRow) : Type 0 where
  pub entries : stored_entries made.row ≡ benefit_row sense (length rows) (row_of rows (i + 1))
  pub form : HasStoredForm (length rows) made.row
  pub range : made.range ≡ range_with no_range (map (λ e. e.1) (benefit_row sense (length rows) (row_of rows (i + 1))))

-- each place has the benefits of its person, or nothing
abbrev pub AreMade : Sense → List Listing → List (Option MadeRow) → Type 0
AreMade sense rows places = (i : ℕ) (d : Option MadeRow) → i < length places → IfSome (slice_index_or places i d) (IsMadeRow sense rows i)

-- the benefits of all persons, and their range
pub record AreAllRows (sense : Sense) (rows : List Listing) (stored : List StoredRow) (found : Range) : Type 0 where
  pub entries : map stored_entries stored ≡ benefit_rows sense rows
  pub form : All (HasStoredForm (length rows)) stored
  pub range : found ≡ range_with no_range (values_in (benefit_rows sense rows))
