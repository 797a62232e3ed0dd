use Rattle.std.proofs.Common.{◌≡◌, ◌++◌, append_assoc, arith, codes, decimal, rules, sym}
use Rattle.std.proofs.lemmas.Grind.{common_steps}
use Rattle.auction_command.specs.Findings.{unproved_line}
use Rattle.auction_command.proofs.finding.UnprovedLineDisplay.fmt.Goals as goal

pub returns-in-Slack-clause-writes : goal.returns-in-Slack-clause-writes
returns-in-Slack-clause-writes g c = λ plain ok.
    let line : unproved_line c.args.self.now.0 ≡ codes "not verified: slack of person " ++ decimal c.in-Slack.person
    ++ codes " at object " ++ decimal c.in-Slack.object = first_of (search rules, grind (arith, common_steps)) in
    rw line (simp append_assoc (rw (sym c.person-in-Slack.view_is, sym c.object-in-Slack.view_is) (c.write-in-Slack.ensures.writes plain ok)))
