use Rattle.double_costs.proofs.Nearest.{best_rounded}
use Rattle.double_costs.proofs.law.rounded_costs_keep_plans.Goals as goal

pub returns : goal.returns
returns c = best_rounded
