use Rattle.exact_checker.proofs.Differences.{verdicts_differ}
use Rattle.exact_checker.proofs.verdict.one_verdict.Goals as goal

pub returns : goal.returns
returns c = verdicts_differ
