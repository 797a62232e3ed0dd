use Rattle.std.proofs.Common.{ℕ, ◌<◌, ◌≤ℤ◌, IsTrue}
use Rattle.exact_checker.specs.inside.Sums.{sum_at}
use Rattle.exact_checker.proofs.rows.all_reach.Given as goal

-- where all reach so far, no passed sum is below the value
abbrev pub invariant-loop-j : goal.invariant-loop-j
invariant-loop-j l = IsTrue l.all → (k : ℕ) → k < l.j → l.value ≤ℤ sum_at l.sense l.costs l.prices k
