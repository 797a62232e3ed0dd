use Rattle.scaled_values.proofs.EpsList.{one_is_listed}
use Rattle.scaled_values.proofs.law.last_eps_is_one.Goals as goal

pub returns : goal.returns
returns c = one_is_listed
