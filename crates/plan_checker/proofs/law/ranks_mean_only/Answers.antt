use Rattle.plan_checker.proofs.RankLaws.{ranks_make_only}
use Rattle.plan_checker.proofs.law.ranks_mean_only.Goals as goal

pub returns : goal.returns
returns c = ranks_make_only
