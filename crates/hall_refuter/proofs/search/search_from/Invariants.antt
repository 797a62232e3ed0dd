use Rattle.std.proofs.Common.{◌≡◌, ◌≤◌, ◌+◌, ◌-◌, length}
use Rattle.hall_refuter.specs.inside.Found.{person_at, IsReach, IsWalked}
use Rattle.hall_refuter.proofs.search.search_from.Given as goal

-- the objects that the persons before the next one list are met
abbrev pub invariant-loop-next : goal.invariant-loop-next
invariant-loop-next l = record {
  reach : IsReach l.problem l.owners l.reach.found.items l.reach.met.items;
  first : person_at l.reach.found.items 0 ≡ l.fn.person;
  walked : IsWalked l.problem l.reach.found.items l.reach.met.items l.next;
  within : l.next ≤ length l.reach.found.items;
}

abbrev pub decreases-loop-next : goal.decreases-loop-next
decreases-loop-next l = length l.problem + 1 - l.next
