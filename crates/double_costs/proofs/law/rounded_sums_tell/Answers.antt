use Rattle.double_costs.proofs.RoundedSums.{sums_tell}
use Rattle.double_costs.proofs.law.rounded_sums_tell.Goals as goal

pub returns : goal.returns
returns c = sums_tell
