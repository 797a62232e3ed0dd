-- The lines of a report, and its text.
use Rattle.std.specs.Prelude.{ℕ, ℤ, ◌+◌, List, [], ◌∷◌, ◌++◌, Option, None, Some, codes, decimal, length, map}
use Rattle.std.specs.Fmt.{signed_decimal}
use Rattle.assign_core.specs.declared.sense.Sense.{Sense}
use Rattle.assign_core.specs.declared.sense.Sense.TheVariants.{Min, Max}
use Rattle.report.specs.Words.{joined}
use Rattle.report.specs.Reports.{Report, best, hall}

-- a line of a report
pub data Line : Type 0 where
  sense_line : Sense → Line
  cost_line : ℤ → Line
  -- a person, its object and the cost of the pair
  assign_line : ℕ → ℕ → ℤ → Line
  -- an object and its price
  price_line : ℕ → ℤ → Line
  infeasible_line : Line
  persons_line : List ℕ → Line
  objects_line : List ℕ → Line

-- the word of a sense
abbrev pub sense_word : Sense → List ℕ
sense_word Min = codes "min"
sense_word Max = codes "max"

-- the words of a line
abbrev pub line_words : Line → List (List ℕ)
line_words (sense_line sense) = codes "sense" ∷ sense_word sense ∷ []
line_words (cost_line c) = codes "cost" ∷ signed_decimal c ∷ []
line_words (assign_line i j c) = codes "assign" ∷ decimal i ∷ decimal j ∷ signed_decimal c ∷ []
line_words (price_line j p) = codes "price" ∷ decimal j ∷ signed_decimal p ∷ []
line_words infeasible_line = codes "infeasible" ∷ []
line_words (persons_line xs) = codes "persons" ∷ decimal (length xs) ∷ map decimal xs
line_words (objects_line xs) = codes "objects" ∷ decimal (length xs) ∷ map decimal xs

-- a line without the line feed that ends it
abbrev pub line_text : Line → List ℕ
line_text line = joined (line_words line)

-- lines, each followed by a line feed
abbrev pub lines_text : List Line → List ℕ
lines_text [] = []
lines_text (line ∷ lines) = line_text line ++ 10 ∷ lines_text lines

-- the line of the sense, if there is one
abbrev pub sense_lines : Option Sense → List Line
sense_lines None = []
sense_lines (Some sense) = sense_line sense ∷ []

-- the rows of the persons i, i + 1, ..
abbrev pub assign_lines : ℕ → List (ℕ × ℤ) → List Line
assign_lines i [] = []
assign_lines i (e ∷ rows) = assign_line i e.0 e.1 ∷ assign_lines (i + 1) rows

-- the prices of the objects j, j + 1, ..
abbrev pub price_lines : ℕ → List ℤ → List Line
price_lines j [] = []
price_lines j (p ∷ prices) = price_line j p ∷ price_lines (j + 1) prices

-- the lines of the prices, if there are any
abbrev pub lines_of_prices : Option (List ℤ) → List Line
lines_of_prices None = []
lines_of_prices (Some prices) = price_lines 1 prices

-- the lines of a report
abbrev pub report_lines : Report → List Line
report_lines (best sense cost rows prices) =
    sense_lines sense ++ cost_line cost ∷ (assign_lines 1 rows ++ lines_of_prices prices)
report_lines (hall sense persons objects) =
    sense_lines sense ++ infeasible_line ∷ persons_line persons ∷ objects_line objects ∷ []

-- the text of a report
abbrev pub report_text : Report → List ℕ
report_text report = lines_text (report_lines report)
