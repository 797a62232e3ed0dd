use Rattle.c_counts.proofs.solving.put_answer.Goals as goal

pub returns-in-Best : goal.returns-in-Best
returns-in-Best c = λ l budget is. c.put_best.ensures l budget c.args.row_marks.now c.args.column_marks.now is

pub returns-in-Stopped : goal.returns-in-Stopped
returns-in-Stopped c = λ l budget is. c.put_state.ensures l budget c.args.row_marks.now c.args.column_marks.now c.args.info.now is

pub returns-in-RowsLack : goal.returns-in-RowsLack
returns-in-RowsLack c = λ l budget is. c.put_shortage.ensures l budget c.args.plan.now c.args.row_numbers.now c.args.column_numbers.now c.args.info.now is
