-- The answer to a text: its report, or its first fault.
use Rattle.std.specs.Prelude.{◌≡◌, ◌≢◌, ℕ, ◌+◌, ◌<◌, ◌≤◌, ◌⊎◌, List, [], ◌∷◌, ◌++◌, None, Some, Result, Ok, Err, length, take}
use Rattle.std.specs.List.{AllByRecursion}
use Rattle.report.specs.declared.fault.ReportFault.{ReportFault}
use Rattle.report.specs.declared.fault.ReportFault.TheVariants as faults
use Rattle.report.specs.declared.limits.TheConstants.{TEXT_LIMIT}
use Rattle.report.specs.Reports.{Report, IsReport}
use Rattle.report.specs.Lines.{Line, line_text, lines_text, report_lines, report_text}
use Rattle.report.specs.Order.{Draft, follow, finish, said_by}

-- none of the bytes is a line feed
abbrev pub IsWithinLine : List ℕ → Type 0
IsWithinLine bytes = AllByRecursion (λ b. b ≢ 10) bytes

-- the bytes begin with lines that are allowed there, and go on with the rest
pub record Begins (bytes : List ℕ) (lines : List Line) (draft : Draft) (rest : List ℕ) : Type 0 where
  pub parts : bytes ≡ lines_text lines ++ rest
  pub order : said_by lines ≡ Some draft

-- these are the first lines of some report, or all of them
abbrev pub BeginsReport : List Line → Type 0
BeginsReport lines = (report : Report) × (more : List Line) × IsReport report
    × (report_lines report ≡ lines ++ more)

-- these bytes aren't a line that may follow the draft
abbrev pub IsNoLine : Draft → List ℕ → Type 0
IsNoLine draft bytes =
    (line : Line) (next : Draft) → line_text line ≡ bytes → follow draft line ≡ Some next → ⊥

-- line number k ends within the limit, and isn't allowed there
abbrev pub HasBadLine : List ℕ → ℕ → Type 0
HasBadLine bytes k = (lines : List Line) × (draft : Draft) × (line rest : List ℕ)
    × Begins bytes lines draft (line ++ 10 ∷ rest) × (k ≡ length lines + 1) × IsWithinLine line
    × (length (lines_text lines) + length line < TEXT_LIMIT) × IsNoLine draft line

-- the text ends inside line number k
abbrev pub EndsInside : List ℕ → ℕ → Type 0
EndsInside bytes k = (lines : List Line) × (draft : Draft) × (line : List ℕ)
    × Begins bytes lines draft line × (k ≡ length lines + 1) × IsWithinLine line
    × (0 < length line) × (length bytes ≤ TEXT_LIMIT)

-- the text ends where line number k must begin
abbrev pub EndsBefore : List ℕ → ℕ → Type 0
EndsBefore bytes k = (lines : List Line) × (draft : Draft) × Begins bytes lines draft []
    × (k ≡ length lines + 1) × (finish draft ≡ None) × (length bytes ≤ TEXT_LIMIT)

-- the text goes beyond the limit, and each line that ends within it may stand where it does
abbrev pub IsTooLong : List ℕ → Type 0
IsTooLong bytes = (lines : List Line) × (draft : Draft) × (line : List ℕ)
    × Begins (take TEXT_LIMIT bytes) lines draft line × IsWithinLine line
    × (TEXT_LIMIT < length bytes)

-- this is the fault of the text; nothing is said of `Memory` and `Read`
abbrev pub HasFault : List ℕ → ReportFault → Type 0
HasFault bytes (faults.Line k) = HasBadLine bytes k ⊎ EndsInside bytes k
HasFault bytes faults.TooLong = IsTooLong bytes
HasFault bytes (faults.Ends k) = EndsBefore bytes k
HasFault bytes faults.Read = Unit {0}
HasFault bytes faults.Memory = Unit {0}

-- the bytes are the text of this report
pub record IsTextOf (bytes : List ℕ) (report : Report) : Type 0 where
  pub allowed : IsReport report
  pub text : bytes ≡ report_text report

-- the right answer to the bytes
abbrev pub Answers : List ℕ → Result Report ReportFault → Type 0
Answers bytes (Ok report) = IsTextOf bytes report
Answers bytes (Err fault) = HasFault bytes fault

-- answers about the text, not about memory or the reader
abbrev pub SpeaksOfText : Result Report ReportFault → Type 0
SpeaksOfText (Err faults.Read) = ⊥
SpeaksOfText (Err faults.Memory) = ⊥
SpeaksOfText answer = Unit {0}
