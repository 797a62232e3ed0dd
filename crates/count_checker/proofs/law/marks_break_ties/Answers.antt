use Rattle.count_checker.proofs.Marked.{marks_break_ties}
use Rattle.count_checker.proofs.law.marks_break_ties.Goals as goal

pub returns : goal.returns
returns c = marks_break_ties
