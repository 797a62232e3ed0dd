use Rattle.plan_checker.proofs.RankLaws.{ranks_keep_away}
use Rattle.plan_checker.proofs.law.ranks_mean_next.Goals as goal

pub returns : goal.returns
returns c = ranks_keep_away
