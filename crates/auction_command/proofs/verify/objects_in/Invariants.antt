use Rattle.std.proofs.Common.{◌≡◌, take}
use Rattle.auction_command.specs.Findings.{objects_of}
use Rattle.auction_command.proofs.verify.objects_in.Given as goal

abbrev pub invariant-loop-object : goal.invariant-loop-object
invariant-loop-object l = l.objects.items ≡ objects_of (take l.object-index l.pairs)
