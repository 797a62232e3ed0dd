use Rattle.assign_core.proofs.HallSets.{decides}
use Rattle.assign_core.proofs.law.proofs_decide.Goals as goal

pub returns : goal.returns
returns c = decides
