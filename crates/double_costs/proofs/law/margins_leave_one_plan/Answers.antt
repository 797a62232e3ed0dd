use Rattle.double_costs.proofs.Alone.{only_best}
use Rattle.double_costs.proofs.law.margins_leave_one_plan.Goals as goal

pub returns : goal.returns
returns c = only_best
