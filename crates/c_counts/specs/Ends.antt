-- What a solving call returns, and what it writes into the buffers.
use Rattle.std.specs.Prelude.{◌≡◌, ◌≢◌, ℕ, ℤ, pos, List, Bool, None, IsSome, Result, Ok, Err, length}
use Rattle.count_checker.specs.declared.lists.CountLists.{CountLists}
use Rattle.count_checker.specs.declared.list_fault.ListFault.{ListFault}
use Rattle.count_checker.specs.declared.list_fault.ListFault.TheVariants as list
use Rattle.count_checker.specs.declared.shortage.Side.{Side}
use Rattle.count_checker.specs.declared.shortage.Side.TheVariants.{Rows, Columns}
use Rattle.count_checker.specs.Counts.{IsBestPlan, IsPlan, chosen, cost_of}
use Rattle.count_checker.specs.CountLists.{problem_in}
use Rattle.count_checker.specs.CountPrices.{AreCountPrices}
use Rattle.count_checker.specs.ListFaults.{HasListFault}
use Rattle.count_checker.specs.Shortages.{IsShortage}
use Rattle.c_counts.specs.declared.end.End.{End}
use Rattle.c_counts.specs.declared.end.End.TheVariants.{Best, RowsLack, ColumnsLack, Stopped, Undecided}
use Rattle.c_counts.specs.declared.fault.Fault.{Fault}
use Rattle.c_counts.specs.declared.fault.Fault.TheVariants as fault
use Rattle.c_counts.specs.declared.info.CountsInfo.{CountsInfo}
use Rattle.c_counts.specs.Answers.{marks_of}
use Rattle.c_counts.specs.Input.{AreListsOf, InputCounts, HasDense, IsOfInput, sense_of}
use Rattle.c_counts.specs.Sums.{IsSumIn}

-- the caller's buffers
pub record Buffers : Type 0 where
  pub plan : List ℕ
  pub row_numbers : List ℤ
  pub column_numbers : List ℤ
  pub row_marks : List ℕ
  pub column_marks : List ℕ
  pub info : CountsInfo

-- the caller's buffers with these lists and this record
abbrev pub buffers : List ℕ → List ℤ → List ℤ → List ℕ → List ℕ → CountsInfo → Buffers
buffers plan row_numbers column_numbers row_marks column_marks info = record {
  plan = plan;
  row_numbers = row_numbers;
  column_numbers = column_numbers;
  row_marks = row_marks;
  column_marks = column_marks;
  info = info;
}

-- each buffer has its length
pub record HasRoom (g : InputCounts) (b : Buffers) : Type 0 where
  pub plan : length b.plan ≡ length g.costs
  pub row_numbers : length b.row_numbers ≡ length g.row_least
  pub column_numbers : length b.column_numbers ≡ length g.column_least
  pub row_marks : length b.row_marks ≡ length g.row_least
  pub column_marks : length b.column_marks ≡ length g.column_least

-- the code of a fault
abbrev pub list_code : ListFault → ℤ
list_code list.Size = pos 6
list_code list.Length = pos 7
list_code (list.Row k) = pos 8
list_code (list.Order k) = pos 9
list_code (list.Column k) = pos 10
list_code (list.Group k) = pos 11
list_code (list.RowCounts k) = pos 12
list_code (list.ColumnCounts k) = pos 13
list_code (list.Cost k) = pos 14

abbrev pub fault_code : Fault → ℤ
fault_code fault.Sense = pos 3
fault_code fault.Dense = pos 4
fault_code fault.Buffer = pos 5
fault_code (fault.List f) = list_code f
fault_code fault.Memory = pos 15

-- the place that a fault names, or the earlier place if it names none
abbrev pub list_place : ℕ → ListFault → ℕ
list_place before list.Size = before
list_place before list.Length = before
list_place before (list.Row k) = k
list_place before (list.Order k) = k
list_place before (list.Column k) = k
list_place before (list.Group k) = k
list_place before (list.RowCounts k) = k
list_place before (list.ColumnCounts k) = k
list_place before (list.Cost k) = k

abbrev pub fault_place : ℕ → Fault → ℕ
fault_place before (fault.List f) = list_place before f
fault_place before fault.Sense = before
fault_place before fault.Dense = before
fault_place before fault.Buffer = before
fault_place before fault.Memory = before

-- the code of an end
abbrev pub end_code : Result End Fault → ℤ
end_code (Ok Best) = pos 0
end_code (Ok RowsLack) = pos 1
end_code (Ok ColumnsLack) = pos 2
end_code (Ok Stopped) = pos 16
end_code (Ok Undecided) = pos 17
end_code (Err f) = fault_code f

-- the lists that are meant have this fault, which is their first
pub record IsListFault (g : InputCounts) (f : ListFault) : Type 0 where
  pub lists : CountLists
  pub meant : AreListsOf g lists
  pub first : HasListFault lists f

-- a sense, and either listed pairs or a cost for each row and each column
pub record IsShaped (g : InputCounts) : Type 0 where
  pub sense : IsSome (sense_of g.sense)
  pub dense : HasDense g

-- the first fault in the order of the variants; where memory was refused, lists may have faults that
-- weren't looked for
abbrev pub HasFault : InputCounts → Buffers → Fault → Type 0
HasFault g b fault.Sense = sense_of g.sense ≡ None
HasFault g b fault.Dense = IsSome (sense_of g.sense) × ¬ HasDense g
HasFault g b fault.Buffer = IsShaped g × ¬ HasRoom g b
HasFault g b (fault.List f) = IsShaped g × HasRoom g b × IsListFault g f
HasFault g b fault.Memory = IsShaped g × HasRoom g b

-- a plan with numbers that prove it best, and the sum of its costs; the marks stay
pub record HoldsBest (l : CountLists) (before after : Buffers) : Type 0 where
  pub plan : IsPlan (problem_in l) (marks_of after.plan)
  pub proof : AreCountPrices (problem_in l) (marks_of after.plan) after.row_numbers after.column_numbers
  pub best : IsBestPlan (problem_in l) (marks_of after.plan)
  pub sum : IsSumIn after.info (cost_of (chosen (problem_in l).pairs (marks_of after.plan)))
  pub info : after.info ≡ record before.info { total_high = after.info.total_high; total_low = after.info.total_low }
  pub row_marks : after.row_marks ≡ before.row_marks
  pub column_marks : after.column_marks ≡ before.column_marks

-- marked rows and columns that are a shortage of this kind: there is no plan; the rest stays
pub record HoldsShortage (l : CountLists) (side : Side) (before after : Buffers) : Type 0 where
  pub proof : IsShortage (problem_in l) side (marks_of after.row_marks) (marks_of after.column_marks)
  pub none : (plan : List Bool) → ¬ IsPlan (problem_in l) plan
  pub plan : after.plan ≡ before.plan
  pub row_numbers : after.row_numbers ≡ before.row_numbers
  pub column_numbers : after.column_numbers ≡ before.column_numbers
  pub info : after.info ≡ before.info

-- a plan and numbers from which the search goes on; the rest stays
pub record HoldsState (before after : Buffers) : Type 0 where
  pub plan : length after.plan ≡ length before.plan
  pub row_numbers : length after.row_numbers ≡ length before.row_numbers
  pub column_numbers : length after.column_numbers ≡ length before.column_numbers
  pub row_marks : after.row_marks ≡ before.row_marks
  pub column_marks : after.column_marks ≡ before.column_marks
  pub info : after.info ≡ before.info

-- what the buffers hold at an end; a call stops only where it has a budget, which isn't 0
abbrev pub HoldsEnd : CountLists → ℕ → Buffers → Buffers → End → Type 0
HoldsEnd l budget before after Best = HoldsBest l before after
HoldsEnd l budget before after RowsLack = HoldsShortage l Rows before after
HoldsEnd l budget before after ColumnsLack = HoldsShortage l Columns before after
HoldsEnd l budget before after Stopped = (budget ≢ 0) × HoldsState before after
HoldsEnd l budget before after Undecided = after ≡ before

-- the buffers with the place of a fault, if it has one; otherwise unchanged
abbrev pub with_place : Fault → Buffers → Buffers
with_place f before = record before { info = record before.info { place = fault_place before.info.place f } }

-- an end of the search, or the first fault
abbrev pub IsSolved : InputCounts → ℕ → Buffers → Buffers → Result End Fault → Type 0
IsSolved g budget before after (Ok end) = IsOfInput g (λ l. HoldsEnd l budget before after end)
IsSolved g budget before after (Err f) = HasFault g before f × (after ≡ with_place f before)

-- an end of the call that has this code
pub record Solves (g : InputCounts) (budget : ℕ) (before after : Buffers) (code : ℤ) : Type 0 where
  pub end : Result End Fault
  pub is : code ≡ end_code end
  pub solved : IsSolved g budget before after end

-- the first fault of the lists that are meant, or refused memory
abbrev pub IsSearchFault : InputCounts → Fault → Type 0
IsSearchFault g (fault.List f) = IsListFault g f
IsSearchFault g fault.Memory = Unit {0}
IsSearchFault g fault.Sense = ⊥
IsSearchFault g fault.Dense = ⊥
IsSearchFault g fault.Buffer = ⊥

-- a search ended with a shortage
abbrev pub IsLack : End → Type 0
IsLack RowsLack = Unit {0}
IsLack ColumnsLack = Unit {0}
IsLack Best = ⊥
IsLack Stopped = ⊥
IsLack Undecided = ⊥
