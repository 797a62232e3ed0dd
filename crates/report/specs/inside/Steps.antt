-- A text read byte by byte.
use Rattle.std.specs.Prelude.{ℕ, ◌+◌, List, [], ◌∷◌, ◌++◌, Option, None, Some, Result, Ok, Err, nat_le, ◌==◌, if◌then◌else◌}
use Rattle.report.specs.declared.fault.ReportFault.{ReportFault}
use Rattle.report.specs.declared.fault.ReportFault.TheVariants as faults
use Rattle.report.specs.declared.limits.TheConstants.{TEXT_LIMIT}
use Rattle.report.specs.Reports.{Report}
use Rattle.report.specs.Order.{Draft, nothing, follow, finish}
use Rattle.report.specs.inside.Numerals.{◌>>=◌}
use Rattle.report.specs.inside.Reading.{line_in}

-- bytes and lines so far, what the lines said, and the open line
pub record State : Type 0 where
  pub at : ℕ
  pub lines : ℕ
  pub draft : Draft
  pub open_line : List ℕ

-- a line ends
abbrev pub with_line : ℕ → ℕ → Option Draft → Result State ReportFault
with_line at lines None = Err (faults.Line (lines + 1))
with_line at lines (Some draft) =
    Ok (record { at = at + 1; lines = lines + 1; draft = draft; open_line = [] })

unfoldable pub taken : Draft → List ℕ → Option Draft
taken draft bytes = line_in bytes >>= λ line. follow draft line

-- one more byte
abbrev pub step : State → ℕ → Result State ReportFault
step s b =
    if nat_le TEXT_LIMIT s.at then Err faults.TooLong
    else if b == 10 then with_line s.at s.lines (taken s.draft s.open_line)
    else Ok (record {
      at = s.at + 1;
      lines = s.lines;
      draft = s.draft;
      open_line = s.open_line ++ b ∷ [];
    })

-- after these bytes
abbrev pub after : Result State ReportFault → List ℕ → Result State ReportFault
after r [] = r
after (Ok s) (b ∷ bytes) = after (step s b) bytes
after (Err e) (b ∷ bytes) = Err e

abbrev pub start : State
start = record { at = 0; lines = 0; draft = nothing; open_line = [] }

abbrev pub ended : ℕ → Option Report → Result Report ReportFault
ended lines None = Err (faults.Ends (lines + 1))
ended lines (Some report) = Ok report

-- where the text ends
abbrev pub finished_state : ℕ → Draft → List ℕ → Result Report ReportFault
finished_state lines draft [] = ended lines (finish draft)
finished_state lines draft (b ∷ bytes) = Err (faults.Line (lines + 1))

abbrev pub finished : Result State ReportFault → Result Report ReportFault
finished (Ok s) = finished_state s.lines s.draft s.open_line
finished (Err e) = Err e

-- the answer to these bytes
unfoldable pub reading : List ℕ → Result Report ReportFault
reading bytes = finished (after (Ok start) bytes)
