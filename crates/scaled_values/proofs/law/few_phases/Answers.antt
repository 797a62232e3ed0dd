use Rattle.scaled_values.proofs.EpsList.{few}
use Rattle.scaled_values.proofs.law.few_phases.Goals as goal

pub returns : goal.returns
returns c = few
