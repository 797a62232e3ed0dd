use Rattle.std.proofs.Common.{◌≡◌, ℕ, ◌↔◌, length}
use Rattle.assign_core.specs.Numbered.{IsMarked}
use Rattle.hall_refuter.specs.inside.Found.{IsAmongFirst}
use Rattle.hall_refuter.proofs.lists.marks_of.Given as goal

-- just the persons that were passed are marked
abbrev pub invariant-loop-one : goal.invariant-loop-one
invariant-loop-one l = record {
  long : length l.marks.items ≡ l.n;
  marked : (x : ℕ) → IsMarked l.marks.items x ↔ IsAmongFirst l.found x l.one-index;
}
