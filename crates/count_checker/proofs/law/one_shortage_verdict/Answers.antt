use Rattle.count_checker.proofs.Lacking.{shortages_differ}
use Rattle.count_checker.proofs.law.one_shortage_verdict.Goals as goal

pub returns : goal.returns
returns c = shortages_differ
