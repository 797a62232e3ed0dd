use Rattle.std.proofs.Common.{◌≡◌, ℕ, ◌+◌, ◌<◌}
use Rattle.cost_lists.specs.Own.{minimised}
use Rattle.hungarian.specs.inside.Plans.{int_at}
use Rattle.hungarian.proofs.row.set_dense.Given as goal

abbrev pub invariant-loop-j : goal.invariant-loop-j
invariant-loop-j l = record {
  first : int_at l.row 0 ≡ int_at l.initial.row 0;
  done : (k : ℕ) → k < l.j → int_at l.row (k + 1) ≡ minimised l.sense (int_at l.costs k);
}
