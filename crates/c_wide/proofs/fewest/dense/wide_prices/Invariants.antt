use Rattle.std.proofs.Common.{◌≡◌, ◌++◌, drop, map}
use Rattle.wide_checker.specs.WideNumbers.{wide_value}
use Rattle.c_wide.proofs.fewest.dense.wide_prices.Given as goal

abbrev pub invariant-loop-place : goal.invariant-loop-place
invariant-loop-place l = map wide_value l.wide.items ++ drop l.place l.prices ≡ l.prices
