-- The codes of the answers, and what is recorded.
use Rattle.std.specs.Prelude.{ℕ, ℤ, pos}
use Rattle.row_checker.specs.declared.verdict.Fault.{Fault}
use Rattle.row_checker.specs.declared.verdict.Fault.TheVariants as fault
use Rattle.c_rows.specs.declared.answer.Answer.{Answer}
use Rattle.c_rows.specs.declared.answer.Answer.TheVariants.{Shown, Costs, Not, Length, Start, CostRow, RowVariable, PlanNumber, Broken, Cost, Memory}

abbrev pub code_of : Answer → ℤ
code_of Shown = pos 0
code_of (Costs cost) = pos 0
code_of (Not (fault.NotShown k)) = pos 1
code_of (Not (fault.TooGreat k)) = pos 2
code_of (Not (fault.TooDeep k)) = pos 3
code_of (Not (fault.Shape k)) = pos 4
code_of (Not (fault.Row k)) = pos 5
code_of (Not (fault.Variable k)) = pos 6
code_of Length = pos 7
code_of (Start k) = pos 8
code_of CostRow = pos 14
code_of (RowVariable k) = pos 9
code_of (PlanNumber k) = pos 10
code_of (Broken r) = pos 11
code_of Cost = pos 12
code_of Memory = pos 13

abbrev pub place_of_fault : Fault → ℕ
place_of_fault (fault.NotShown k) = k
place_of_fault (fault.TooGreat k) = k
place_of_fault (fault.TooDeep k) = k
place_of_fault (fault.Shape k) = k
place_of_fault (fault.Row k) = k
place_of_fault (fault.Variable k) = k

-- the recorded place, and the recorded cost: those of the answer, or those before
abbrev pub place_after : ℕ → Answer → ℕ
place_after before (Not fault) = place_of_fault fault
place_after before (Start k) = k
place_after before (RowVariable k) = k
place_after before (PlanNumber k) = k
place_after before (Broken r) = r
place_after before answer = before

abbrev pub cost_after : ℤ → Answer → ℤ
cost_after before (Costs cost) = cost
cost_after before answer = before
