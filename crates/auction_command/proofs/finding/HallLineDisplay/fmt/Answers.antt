use Rattle.std.proofs.Common.{◌≡◌, ◌++◌, append_assoc, arith, codes, decimal, rules, sym}
use Rattle.std.proofs.lemmas.Grind.{common_steps}
use Rattle.auction_command.specs.Findings.{hall_line}
use Rattle.auction_command.proofs.finding.HallLineDisplay.fmt.Goals as goal

pub returns-in-Missing-clause-writes : goal.returns-in-Missing-clause-writes
returns-in-Missing-clause-writes g c = λ plain ok.
    let line : hall_line c.args.self.now.0 ≡ codes "not verified: object " ++ decimal c.in-Missing.object ++ codes
    " missing for person " ++ decimal c.in-Missing.person = first_of (search rules, grind (arith, common_steps)) in
    rw line (simp append_assoc (rw (sym c.object.view_is, sym c.person.view_is) (c.write-in-Missing.ensures.writes plain ok)))
