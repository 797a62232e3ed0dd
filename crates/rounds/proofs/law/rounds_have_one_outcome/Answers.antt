use Rattle.rounds.proofs.Ending.{one_outcome}
use Rattle.rounds.proofs.law.rounds_have_one_outcome.Goals as goal

pub returns : goal.returns
returns c = one_outcome
