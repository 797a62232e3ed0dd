use Rattle.assign_core.proofs.Duality.{best_by_slack}
use Rattle.assign_core.proofs.law.slack_means_best.Goals as goal

pub returns : goal.returns
returns c = best_by_slack
