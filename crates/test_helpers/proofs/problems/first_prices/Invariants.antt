use Rattle.std.proofs.Common.{◌≡◌, ◌≤ℤ◌, length}
use Rattle.std.specs.List.{All}
use Rattle.assign_core.specs.declared.numbers.TheConstants.{GREATEST_FIRST_PRICE}
use Rattle.assign_core.specs.Prices.{IsPrice}
use Rattle.test_helpers.proofs.problems.first_prices.Given as goal

abbrev pub invariant-loop-i : goal.invariant-loop-i
invariant-loop-i l = record {
  long : length l.values.items ≡ l.i;
  each : All IsPrice l.values.items;
  low : All (λ p. p ≤ℤ GREATEST_FIRST_PRICE) l.values.items;
}
