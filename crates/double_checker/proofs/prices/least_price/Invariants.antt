use Rattle.std.proofs.Common.{ℕ, ◌<◌, ◌≡◌, ◌≤ℤ◌, IsTrue, get_or, length}
use lib.Ieee.{nan}
use Rattle.double_costs.specs.Units.{is_number, units_of}
use Rattle.double_checker.proofs.prices.least_price.Given as goal

abbrev pub invariant-loop-k : goal.invariant-loop-k
invariant-loop-k l = record {
  finite : IsTrue (is_number l.least);
  each : (i : ℕ) → i < l.k → units_of l.least ≤ℤ units_of (get_or l.prices i nan);
  one : 0 < length l.prices → (q : ℕ) × (q < length l.prices) × (units_of (get_or l.prices q nan) ≡ units_of l.least);
}
