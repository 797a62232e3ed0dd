use Rattle.std.proofs.Common.{◌≡◌, length}
use Rattle.hungarian.specs.inside.Plans.{at}
use Rattle.hungarian.specs.inside.Stored.{FlipsFrom}
use Rattle.hungarian.proofs.augmenting.augment.Given as goal

-- the path is flipped from its end to the object
abbrev pub invariant-loop-object : goal.invariant-loop-object
invariant-loop-object l = record {
  objects_long : length l.objects ≡ length l.initial.objects;
  owners_long : length l.owners ≡ length l.initial.owners;
  flipping : FlipsFrom l.initial.owners l.initial.objects l.predecessors l.ranks l.end l.object l.owners l.objects;
}

-- the rank of the object
abbrev pub decreases-loop-object : goal.decreases-loop-object
decreases-loop-object l = at l.ranks l.object
