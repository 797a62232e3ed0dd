use Rattle.count_checker.proofs.Verdicts.{verdicts_differ}
use Rattle.count_checker.proofs.law.one_count_verdict.Goals as goal

pub returns : goal.returns
returns c = verdicts_differ
