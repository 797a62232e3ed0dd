use Rattle.assign_core.proofs.HallSets.{no_assignment}
use Rattle.assign_core.proofs.hall.hall_set_forbids.Goals as goal

pub returns : goal.returns
returns c = no_assignment
