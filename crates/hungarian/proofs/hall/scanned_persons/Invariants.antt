use Rattle.hungarian.specs.inside.Plans.{at}
use Rattle.hungarian.specs.inside.Trees.{IsScanned}
use Rattle.hungarian.proofs.Scanned.{AreListed}
use Rattle.hungarian.proofs.hall.scanned_persons.Given as goal

abbrev pub invariant-loop-i : goal.invariant-loop-i
invariant-loop-i l = AreListed (λ k. IsScanned l.first (at l.objects) (at l.ranks) k) l.i l.numbers.items
