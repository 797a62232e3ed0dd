use Rattle.std.proofs.Common.{ℕ, ℤ, ◌<◌, ◌≤ℤ◌, get_or, IsTrue}
use Rattle.assign_core.specs.Rows.{IsCost}
use Rattle.exact_checker.specs.inside.Sums.{sum_at}
use Rattle.plan_repair.proofs.one_pass.all_hold.Given as goal

-- where all hold so far, each passed cost is in range, and no passed sum is below the value
abbrev pub invariant-loop-j : goal.invariant-loop-j
invariant-loop-j l = record {
  costs : IsTrue l.all → (k : ℕ) (d : ℤ) → k < l.j → IsCost (get_or l.costs k d);
  sums : IsTrue l.all → (k : ℕ) → k < l.j → l.value ≤ℤ sum_at l.sense l.costs l.prices k;
}
