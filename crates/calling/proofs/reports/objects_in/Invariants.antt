use Rattle.std.proofs.Common.{◌≡◌, take}
use Rattle.calling.specs.Reports.{objects_of}
use Rattle.calling.proofs.reports.objects_in.Given as goal

abbrev pub invariant-loop-object : goal.invariant-loop-object
invariant-loop-object l = l.objects.items ≡ objects_of (take l.object-index l.rows)
