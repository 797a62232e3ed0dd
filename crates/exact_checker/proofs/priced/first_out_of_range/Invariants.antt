use Rattle.std.proofs.Common.{ℕ}
use Rattle.assign_core.specs.Numbered.{IsNumber}
use Rattle.assign_core.specs.Prices.{price_of}
use Rattle.cost_lists.specs.Exact.{IsPriceInLimits}
use Rattle.exact_checker.proofs.priced.first_out_of_range.Given as goal

abbrev pub invariant-loop-i : goal.invariant-loop-i
invariant-loop-i l = (k : ℕ) → IsNumber l.i k → IsPriceInLimits (price_of l.prices k)
