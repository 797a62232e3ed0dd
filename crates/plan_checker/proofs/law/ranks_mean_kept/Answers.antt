use Rattle.plan_checker.proofs.RankLaws.{ranks_keep}
use Rattle.plan_checker.proofs.law.ranks_mean_kept.Goals as goal

pub returns : goal.returns
returns c = ranks_keep
