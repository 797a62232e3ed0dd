use Rattle.std.proofs.Common.{◌<◌}
use Rattle.hungarian.specs.inside.Plans.{at}
use Rattle.hungarian.proofs.Scanned.{AreListed}
use Rattle.hungarian.proofs.hall.scanned_objects.Given as goal

abbrev pub invariant-loop-j : goal.invariant-loop-j
invariant-loop-j l = AreListed (λ k. 0 < at l.ranks k) l.j l.numbers.items
