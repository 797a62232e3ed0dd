use Rattle.hall_refuter.proofs.Determined.{refuted_once}
use Rattle.hall_refuter.proofs.law.refutation_is_determined.Goals as goal

pub returns : goal.returns
returns c = refuted_once
