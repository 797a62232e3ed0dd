use Rattle.dual_checker.proofs.HallDifferences.{halls_differ}
use Rattle.dual_checker.proofs.hall_verdict.one_hall_verdict.Goals as goal

pub returns : goal.returns
returns c = halls_differ
