-- What a search of checked lists ends with.
use Rattle.std.specs.Prelude.{◌≡◌, ◌≢◌, ℕ, List, Bool, nat_lt, length, map}
use Rattle.count_checker.specs.declared.lists.CountLists.{CountLists}
use Rattle.count_checker.specs.declared.shortage.Side.TheVariants.{Rows, Columns}
use Rattle.count_checker.specs.Counts.{IsBestPlan, IsPlan, chosen, cost_of}
use Rattle.count_checker.specs.CountLists.{problem_in}
use Rattle.count_checker.specs.CountPrices.{AreCountPrices}
use Rattle.count_checker.specs.Shortages.{AreLongMarks, IsShortage}
use Rattle.c_counts.specs.declared.end.End.{End}
use Rattle.c_counts.specs.declared.end.End.TheVariants.{Best, RowsLack, ColumnsLack, Stopped, Undecided}
use Rattle.c_counts.specs.declared.search.Answer.{Answer}

-- bytes as marks: 0 stands for no
abbrev pub marks_of : List ℕ → List Bool
marks_of bytes = map (nat_lt 0) bytes

-- the plan and the numbers have the right lengths
pub record HasLengths (l : CountLists) (a : Answer) : Type 0 where
  pub plan_long : length a.plan.items ≡ length l.rows.now
  pub rows_long : length a.row_numbers.items ≡ length l.row_least.now
  pub columns_long : length a.column_numbers.items ≡ length l.column_least.now

-- a plan with numbers that prove it best
pub record HasBest (l : CountLists) (a : Answer) : Type 0 where
  pub plan : IsPlan (problem_in l) (marks_of a.plan.items)
  pub proof : AreCountPrices (problem_in l) (marks_of a.plan.items) a.row_numbers.items a.column_numbers.items
  pub best : IsBestPlan (problem_in l) (marks_of a.plan.items)

-- rows that lack: there is no plan
pub record HasRowsLack (l : CountLists) (a : Answer) : Type 0 where
  pub long : AreLongMarks (problem_in l) (marks_of a.row_marks.items) (marks_of a.column_marks.items)
  pub proof : IsShortage (problem_in l) Rows (marks_of a.row_marks.items) (marks_of a.column_marks.items)
  pub none : (plan : List Bool) → ¬ IsPlan (problem_in l) plan

-- columns that lack: there is no plan
pub record HasColumnsLack (l : CountLists) (a : Answer) : Type 0 where
  pub long : AreLongMarks (problem_in l) (marks_of a.row_marks.items) (marks_of a.column_marks.items)
  pub proof : IsShortage (problem_in l) Columns (marks_of a.row_marks.items) (marks_of a.column_marks.items)
  pub none : (plan : List Bool) → ¬ IsPlan (problem_in l) plan

-- what an end says; a search stops only where it has a budget, which isn't 0
abbrev pub IsEnd : CountLists → ℕ → Answer → End → Type 0
IsEnd l budget a Best = HasBest l a
IsEnd l budget a RowsLack = HasRowsLack l a
IsEnd l budget a ColumnsLack = HasColumnsLack l a
IsEnd l budget a Stopped = (budget ≢ 0) × HasLengths l a
IsEnd l budget a Undecided = Unit {0}

-- what an answer's end says, and the sum of its plan's costs
pub record IsAnswer (l : CountLists) (budget : ℕ) (a : Answer) : Type 0 where
  pub end : IsEnd l budget a a.end
  pub sum : a.sum ≡ cost_of (chosen (problem_in l).pairs (marks_of a.plan.items))
