use Rattle.std.proofs.Common.{ℕ, ℤ, ◌<◌, get_or}
use Rattle.assign_core.specs.Numbered.{IsMarked}
use Rattle.hall_refuter.specs.inside.Found.{IsReach, Grows}
use Rattle.hall_refuter.proofs.reach.visit.Given as goal

-- the objects that were passed are met
abbrev pub invariant-loop-object : goal.invariant-loop-object
invariant-loop-object l = record {
  reach : IsReach l.problem l.owners l.reach.found.items l.reach.met.items;
  grows : Grows l.initial.reach.found.items l.initial.reach.met.items l.reach.found.items l.reach.met.items;
  met : (k : ℕ) (d : ℕ × ℤ) → k < l.object-index → IsMarked l.reach.met.items (get_or l.object-items k d).0;
}
