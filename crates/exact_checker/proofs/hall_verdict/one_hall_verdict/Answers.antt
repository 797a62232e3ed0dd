use Rattle.exact_checker.proofs.HallDifferences.{hall_verdicts_differ}
use Rattle.exact_checker.proofs.hall_verdict.one_hall_verdict.Goals as goal

pub returns : goal.returns
returns c = hall_verdicts_differ
