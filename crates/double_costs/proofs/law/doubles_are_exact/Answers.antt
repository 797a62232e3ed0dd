use Rattle.double_costs.proofs.ExactUnits.{exact}
use Rattle.double_costs.proofs.law.doubles_are_exact.Goals as goal

pub returns : goal.returns
returns c = exact
