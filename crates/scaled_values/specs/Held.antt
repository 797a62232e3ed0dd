-- How a caller sees the benefits of a person's pairs.
use Rattle.std.specs.Prelude.{◌≡◌, ℕ, ◌<◌, length}
use Rattle.assign_core.specs.Rows.{Listing as Entries}
use Rattle.assign_core.specs.Dense.{row_from}
use Rattle.scaled_values.specs.declared.row.Row.{Row}
use Rattle.scaled_values.specs.declared.row.Row.TheVariants as held

-- the objects of a row with their benefits
abbrev pub entries_of : Row → Entries
entries_of (held.Full benefits) = row_from 1 benefits.now
entries_of (held.Pairs pairs) = pairs.now

-- the row is full exactly if it lists all n objects
abbrev pub HasForm : ℕ → Row → Type 0
HasForm n (held.Full benefits) = length benefits.now ≡ n
HasForm n (held.Pairs pairs) = length pairs.now < n
