use Rattle.std.proofs.Common.{ℕ, ◌<◌, IsTrue, get_or}
use lib.Ieee.{nan}
use Rattle.double_costs.specs.Units.{is_number}
use Rattle.block_doubles.proofs.finite.first_infinite.Given as goal

abbrev pub invariant-loop-k : goal.invariant-loop-k
invariant-loop-k l = record {
  xs : (i : ℕ) → i < l.k → IsTrue (is_number (get_or l.xs i nan));
  ys : (i : ℕ) → i < l.k → IsTrue (is_number (get_or l.ys i nan));
}
