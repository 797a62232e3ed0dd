use Rattle.double_costs.proofs.Moved.{best_moved}
use Rattle.double_costs.proofs.law.margins_keep_plans.Goals as goal

pub returns : goal.returns
returns c = best_moved
