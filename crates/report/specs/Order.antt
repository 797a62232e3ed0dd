-- The order of lines.
use Rattle.std.specs.Prelude.{ℕ, ℤ, ◌+◌, List, [], ◌∷◌, ◌++◌, Option, None, Some, nat_lt, nat_le, ◌==◌, ◌&&◌, if◌then◌else◌, length}
use Rattle.assign_core.specs.declared.numbers.TheConstants.{MOST_PERSONS}
use Rattle.assign_core.specs.declared.sense.Sense.{Sense}
use Rattle.report.specs.Reports.{Report, best, hall, is_entry, is_price, is_rising, is_total}
use Rattle.report.specs.Lines.{Line, sense_line, cost_line, assign_line, price_line, infeasible_line, persons_line, objects_line}

-- what the lines so far have said
pub data Draft : Type 0 where
  nothing : Draft
  with_sense : Sense → Draft
  -- a cost, and the rows so far
  with_rows : Option Sense → ℤ → List (ℕ × ℤ) → Draft
  -- a cost, all rows, and the prices so far, at least one
  with_prices : Option Sense → ℤ → List (ℕ × ℤ) → List ℤ → Draft
  infeasible : Option Sense → Draft
  with_persons : Option Sense → List ℕ → Draft
  -- a whole Hall set
  with_objects : Option Sense → List ℕ → List ℕ → Draft

-- a cost, and no row yet, if the cost is in range
abbrev pub with_cost : Option Sense → ℤ → Option Draft
with_cost sense c = if is_total sense c then Some (with_rows sense c []) else None

-- the next row
abbrev pub row_more : Option Sense → ℤ → List (ℕ × ℤ) → ℕ → ℕ → ℤ → Option Draft
row_more sense cost rows i j c =
    if (i == length rows + 1) && nat_le i MOST_PERSONS && is_entry sense (j, c)
    then Some (with_rows sense cost (rows ++ (j, c) ∷ [])) else None

-- the first price, after at least one row
abbrev pub first_price : Option Sense → ℤ → List (ℕ × ℤ) → ℕ → ℤ → Option Draft
first_price sense cost rows j p =
    if (j == 1) && nat_lt 0 (length rows) && is_price sense p
    then Some (with_prices sense cost rows (p ∷ [])) else None

-- the next price, up to the number of rows
abbrev pub price_more : Option Sense → ℤ → List (ℕ × ℤ) → List ℤ → ℕ → ℤ → Option Draft
price_more sense cost rows prices j p =
    if (j == length prices + 1) && nat_lt (length prices) (length rows) && is_price sense p
    then Some (with_prices sense cost rows (prices ++ p ∷ [])) else None

-- the draft with one more line, if the line is allowed there
abbrev pub follow : Draft → Line → Option Draft
follow nothing (sense_line sense) = Some (with_sense sense)
follow nothing (cost_line c) = with_cost None c
follow nothing infeasible_line = Some (infeasible None)
follow (with_sense sense) (cost_line c) = with_cost (Some sense) c
follow (with_sense sense) infeasible_line = Some (infeasible (Some sense))
follow (with_rows sense cost rows) (assign_line i j c) = row_more sense cost rows i j c
follow (with_rows sense cost rows) (price_line j p) = first_price sense cost rows j p
follow (with_prices sense cost rows prices) (price_line j p) = price_more sense cost rows prices j p
follow (infeasible sense) (persons_line xs) =
    if nat_lt 0 (length xs) && is_rising 0 xs then Some (with_persons sense xs) else None
follow (with_persons sense persons) (objects_line xs) =
    if is_rising 0 xs then Some (with_objects sense persons xs) else None
follow draft line = None

-- the report, if the text may end there
abbrev pub finish : Draft → Option Report
finish (with_rows sense cost rows) =
    if nat_lt 0 (length rows) then Some (best sense cost rows None) else None
finish (with_prices sense cost rows prices) =
    if length prices == length rows then Some (best sense cost rows (Some prices)) else None
finish (with_objects sense persons objects) = Some (hall sense persons objects)
finish draft = None

-- the draft with one more line, if there is a draft
abbrev pub and_follow : Option Draft → Line → Option Draft
and_follow None line = None
and_follow (Some draft) line = follow draft line

-- the draft after these lines
abbrev pub follow_all : Option Draft → List Line → Option Draft
follow_all draft [] = draft
follow_all draft (line ∷ lines) = follow_all (and_follow draft line) lines

-- the draft after lines from the start of a text
abbrev pub said_by : List Line → Option Draft
said_by lines = follow_all (Some nothing) lines
