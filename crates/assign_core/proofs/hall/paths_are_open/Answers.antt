use Rattle.assign_core.proofs.HallReach.{path_open}
use Rattle.assign_core.proofs.hall.paths_are_open.Goals as goal

pub returns : goal.returns
returns c = path_open
