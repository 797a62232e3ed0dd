use Rattle.count_checker.proofs.Marked.{marks_mean_fewest}
use Rattle.count_checker.proofs.law.marks_mean_fewest_changes.Goals as goal

pub returns : goal.returns
returns c = marks_mean_fewest
