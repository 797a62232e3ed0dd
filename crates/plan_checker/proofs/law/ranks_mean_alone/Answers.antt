use Rattle.plan_checker.proofs.RankLaws.{ranks_leave_none}
use Rattle.plan_checker.proofs.law.ranks_mean_alone.Goals as goal

pub returns : goal.returns
returns c = ranks_leave_none
