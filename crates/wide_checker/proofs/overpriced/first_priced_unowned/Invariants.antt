use Rattle.std.proofs.Common.{ℕ, map}
use Rattle.assign_core.specs.Numbered.{IsNumber}
use Rattle.exact_checker.proofs.Unowned.{IsFine}
use Rattle.wide_checker.specs.WideNumbers.{wide_value}
use Rattle.wide_checker.proofs.overpriced.first_priced_unowned.Given as goal

abbrev pub invariant-loop-i : goal.invariant-loop-i
invariant-loop-i l = (k : ℕ) → IsNumber l.i k → IsFine l.counts (map wide_value l.prices) k
