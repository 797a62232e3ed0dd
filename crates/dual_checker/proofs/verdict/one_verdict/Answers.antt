use Rattle.dual_checker.proofs.Differences.{differ}
use Rattle.dual_checker.proofs.verdict.one_verdict.Goals as goal

pub returns : goal.returns
returns c = differ
