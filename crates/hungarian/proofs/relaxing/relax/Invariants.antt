use Rattle.std.proofs.Common.{◌≡◌, ℕ, ◌<◌, ◌≤◌}
use Rattle.hungarian.specs.inside.Plans.{at, int_at}
use Rattle.hungarian.specs.inside.Trees.{IsRelaxed}
use Rattle.hungarian.proofs.relaxing.relax.Given as goal

-- the passed objects are relaxed, and the others are as they were
abbrev pub invariant-loop-j : goal.invariant-loop-j
invariant-loop-j l = record {
  done : (k : ℕ) → k < l.j → IsRelaxed l.person (int_at l.row k) l.to_person (at l.ranks k)
      (int_at l.initial.to_objects k) (at l.initial.predecessors k) (int_at l.to_objects k) (at l.predecessors k);
  costs : (k : ℕ) → l.j ≤ k → int_at l.to_objects k ≡ int_at l.initial.to_objects k;
  persons : (k : ℕ) → l.j ≤ k → at l.predecessors k ≡ at l.initial.predecessors k;
}
