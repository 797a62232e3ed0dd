use Rattle.std.proofs.Common.{ap, arith, sym}
use Rattle.std.proofs.lemmas.Bool.{eqb-false}
use Rattle.report.specs.inside.SeenLines.{seen_line}
use Rattle.report.proofs.OrderLemmas.{persons_follow}
use Rattle.report.proofs.draft.hall_persons.Goals as goal

pub returns-in-Persons : goal.returns-in-Persons
returns-in-Persons c = persons_follow c.args.sense (seen_line c.args.line) c.in-Persons.persons.items (ap seen_line c.in-Persons.is) c.requires
    (let some = eqb-false _ _ (sym c.if-is_empty.ensures) in let long = c.in-Persons.persons.ok.0 in omega (arith, some, long))
