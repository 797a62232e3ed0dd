use Rattle.std.proofs.Common.{ℕ, ◌<◌, ◌≤ℤ◌, map}
use Rattle.exact_checker.specs.inside.Sums.{sum_at}
use Rattle.wide_checker.specs.WideNumbers.{wide_value}
use Rattle.wide_checker.proofs.rows.first_under.Given as goal

-- no passed sum is below the value
abbrev pub invariant-loop-j : goal.invariant-loop-j
invariant-loop-j l = (k : ℕ) → k < l.j → l.value ≤ℤ sum_at l.sense (map wide_value l.costs) (map wide_value l.prices) k
