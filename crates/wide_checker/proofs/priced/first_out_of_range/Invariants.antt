use Rattle.std.proofs.Common.{ℕ, map}
use Rattle.assign_core.specs.Numbered.{IsNumber}
use Rattle.assign_core.specs.Prices.{price_of}
use Rattle.wide_checker.specs.WideNumbers.{IsInPrices, wide_value}
use Rattle.wide_checker.proofs.priced.first_out_of_range.Given as goal

abbrev pub invariant-loop-i : goal.invariant-loop-i
invariant-loop-i l = (k : ℕ) → IsNumber l.i k → IsInPrices (price_of (map wide_value l.prices) k)
