use Rattle.count_checker.proofs.Marked.{marks_mean_same}
use Rattle.count_checker.proofs.law.marks_mean_the_same.Goals as goal

pub returns : goal.returns
returns c = marks_mean_same
