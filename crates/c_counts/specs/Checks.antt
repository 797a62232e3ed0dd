-- What the checking calls return and record.
use Rattle.std.specs.Prelude.{◌≡◌, ℕ, zero, suc, ℤ, pos, List, Option, None, Some, IsSome, Result, Ok, Err}
use Rattle.count_checker.specs.declared.verdict.CountVerdict.{CountVerdict}
use Rattle.count_checker.specs.declared.verdict.CountVerdict.TheVariants as count
use Rattle.count_checker.specs.declared.shortage.Side.{Side}
use Rattle.count_checker.specs.declared.shortage.Side.TheVariants as side
use Rattle.count_checker.specs.declared.shortage.ShortageVerdict.{ShortageVerdict}
use Rattle.count_checker.specs.declared.shortage.ShortageVerdict.TheVariants as short
use Rattle.count_checker.specs.CountFaults.{IsCountVerdict}
use Rattle.count_checker.specs.CountLists.{problem_in}
use Rattle.count_checker.specs.Shortages.{IsShortageVerdict}
use Rattle.c_counts.specs.declared.fault.Fault.{Fault}
use Rattle.c_counts.specs.declared.fault.Fault.TheVariants as fault
use Rattle.c_counts.specs.declared.info.CountsInfo.{CountsInfo}
use Rattle.c_counts.specs.Answers.{marks_of}
use Rattle.c_counts.specs.Ends.{IsListFault, IsShaped, fault_code, fault_place}
use Rattle.c_counts.specs.Input.{InputCounts, HasDense, IsOfInput, sense_of}

-- the first fault of a problem without buffers
abbrev pub HasProblemFault : InputCounts → Fault → Type 0
HasProblemFault g fault.Sense = sense_of g.sense ≡ None
HasProblemFault g fault.Dense = IsSome (sense_of g.sense) × ¬ HasDense g
HasProblemFault g (fault.List f) = IsShaped g × IsListFault g f
HasProblemFault g fault.Memory = IsShaped g
HasProblemFault g fault.Buffer = ⊥

-- the code of a verdict
abbrev pub verdict_code : CountVerdict → ℤ
verdict_code count.Yes = pos 0
verdict_code count.Length = pos 18
verdict_code (count.Twice k) = pos 19
verdict_code (count.Row i) = pos 20
verdict_code (count.Column j) = pos 21
verdict_code (count.Pair k) = pos 22

-- the record with what a verdict names
abbrev pub with_verdict : CountVerdict → CountsInfo → CountsInfo
with_verdict count.Yes info = info
with_verdict count.Length info = info
with_verdict (count.Twice k) info = record info { place = k }
with_verdict (count.Row i) info = record info { row = i }
with_verdict (count.Column j) info = record info { column = j }
with_verdict (count.Pair k) info = record info { place = k }

-- the record with the place of a fault, if it has one
abbrev pub with_fault : Fault → CountsInfo → CountsInfo
with_fault f info = record info { place = fault_place info.place f }

-- what a call that checks a plan ends with
abbrev pub judged_code : Result CountVerdict Fault → ℤ
judged_code (Ok v) = verdict_code v
judged_code (Err f) = fault_code f

abbrev pub judged_info : Result CountVerdict Fault → CountsInfo → CountsInfo
judged_info (Ok v) info = with_verdict v info
judged_info (Err f) info = with_fault f info

abbrev pub IsJudged : InputCounts → List ℕ → List ℤ → List ℤ → Result CountVerdict Fault → Type 0
IsJudged g plan r v (Ok verdict) = IsOfInput g (λ l. IsCountVerdict l (marks_of plan) r v verdict)
IsJudged g plan r v (Err f) = HasProblemFault g f

-- the verdict on a plan with numbers, or the first fault, with its code and what it records
pub record Judges (g : InputCounts) (plan : List ℕ) (r v : List ℤ) (before after : CountsInfo) (code : ℤ) : Type 0 where
  pub end : Result CountVerdict Fault
  pub is : code ≡ judged_code end
  pub info : after ≡ judged_info end before
  pub holds : IsJudged g plan r v end

-- the side with this number
abbrev pub side_of : ℕ → Option Side
side_of zero = None
side_of (suc zero) = Some side.Rows
side_of (suc (suc zero)) = Some side.Columns
side_of (suc (suc (suc k))) = None

-- the code of a verdict on a shortage
abbrev pub shortage_code : Side → ShortageVerdict → ℤ
shortage_code s short.Length = pos 23
shortage_code s short.Enough = pos 24
shortage_code side.Rows short.Yes = pos 1
shortage_code side.Columns short.Yes = pos 2

abbrev pub shortage_judged_code : Side → Result ShortageVerdict Fault → ℤ
shortage_judged_code s (Ok v) = shortage_code s v
shortage_judged_code s (Err f) = fault_code f

abbrev pub shortage_judged_info : Result ShortageVerdict Fault → CountsInfo → CountsInfo
shortage_judged_info (Ok v) info = info
shortage_judged_info (Err f) info = with_fault f info

abbrev pub IsShortageJudged : InputCounts → Side → List ℕ → List ℕ → Result ShortageVerdict Fault → Type 0
IsShortageJudged g s rows columns (Ok v) = IsOfInput g (λ l. IsShortageVerdict (problem_in l) s (marks_of rows) (marks_of columns) v)
IsShortageJudged g s rows columns (Err f) = HasProblemFault g f

-- the verdict on marks of rows and columns, or the first fault, with its code and what it records
pub record JudgesBySide (g : InputCounts) (s : Side) (rows columns : List ℕ) (before after : CountsInfo) (code : ℤ) : Type 0 where
  pub end : Result ShortageVerdict Fault
  pub is : code ≡ shortage_judged_code s end
  pub info : after ≡ shortage_judged_info end before
  pub holds : IsShortageJudged g s rows columns end

-- so it is for the side that is named, or none is
abbrev pub JudgesOption : InputCounts → Option Side → List ℕ → List ℕ → CountsInfo → CountsInfo → ℤ → Type 0
JudgesOption g None rows columns before after code = (code ≡ pos 25) × (after ≡ before)
JudgesOption g (Some s) rows columns before after code = JudgesBySide g s rows columns before after code

abbrev pub JudgesShortage : InputCounts → ℕ → List ℕ → List ℕ → CountsInfo → CountsInfo → ℤ → Type 0
JudgesShortage g number rows columns before after code = JudgesOption g (side_of number) rows columns before after code
