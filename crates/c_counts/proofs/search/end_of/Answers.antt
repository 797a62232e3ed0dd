use Rattle.std.proofs.Common.{ℕ, refl}
use Rattle.std.specs.Prelude.{Result, Ok, Err, IfOk}
use Rattle.count_checker.specs.declared.lists.CountLists.{CountLists}
use Rattle.c_counts.specs.declared.end.End.{End}
use Rattle.c_counts.specs.declared.end.End.TheVariants.{Best, RowsLack, ColumnsLack, Stopped, Undecided}
use Rattle.c_counts.specs.declared.search.Answer.{Answer}
use Rattle.c_counts.specs.Answers.{IsEnd}
use Rattle.c_counts.proofs.search.end_of.Goals as goal

-- an end that holds without a budget holds with any
with_budget : (l : CountLists) (budget : ℕ) (a : Answer) (e : End) → IsEnd l 0 a e → IsEnd l budget a e
with_budget l budget a Best h = h
with_budget l budget a RowsLack h = h
with_budget l budget a ColumnsLack h = h
with_budget l budget a Stopped h = absurd (h.0 refl)
with_budget l budget a Undecided h = h

all_ends : {E : Type 0} (l : CountLists) (budget : ℕ) (a : Answer) (r : Result End E) → IfOk r (IsEnd l 0 a) → IfOk r (IsEnd l budget a)
all_ends l budget a (Ok e) h = with_budget l budget a e h
all_ends l budget a (Err x) h = h

pub returns-in-Plan : goal.returns-in-Plan
returns-in-Plan c = all_ends c.args.problem.now c.args.budget c.args.answer.now c.end_with_plan.result c.end_with_plan.ensures

pub returns-in-RowsLack : goal.returns-in-RowsLack
returns-in-RowsLack c = all_ends c.args.problem.now c.args.budget c.args.answer.now c.end_with_rows.result c.end_with_rows.ensures

pub returns-in-ColumnsLack : goal.returns-in-ColumnsLack
returns-in-ColumnsLack c = all_ends c.args.problem.now c.args.budget c.args.answer.now c.end_with_columns.result c.end_with_columns.ensures
