use Rattle.auction_command.proofs.Findings.{findings_differ}
use Rattle.auction_command.proofs.finding.one_finding.Goals as goal

pub returns : goal.returns
returns c = findings_differ
