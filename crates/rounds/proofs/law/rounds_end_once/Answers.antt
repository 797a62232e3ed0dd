use Rattle.rounds.proofs.Runs.{once, stays}
use Rattle.rounds.proofs.law.rounds_end_once.Goals as goal

pub returns-clause-once : goal.returns-clause-once
returns-clause-once c = once

pub returns-clause-stays : goal.returns-clause-stays
returns-clause-stays c = stays
