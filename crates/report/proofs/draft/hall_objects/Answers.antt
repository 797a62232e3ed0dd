use Rattle.std.proofs.Common.{ap}
use Rattle.report.specs.inside.SeenLines.{seen_line}
use Rattle.report.proofs.OrderLemmas.{objects_follow}
use Rattle.report.proofs.draft.hall_objects.Goals as goal

pub returns-in-Objects : goal.returns-in-Objects
returns-in-Objects c = objects_follow c.args.sense c.args.persons.items (seen_line c.args.line)
    c.in-Objects.objects.items (ap seen_line c.in-Objects.is) c.requires
