use Rattle.std.proofs.Common.{ℕ, ◌<◌, IsTrue, get_or}
use lib.Ieee.{nan}
use Rattle.double_costs.specs.Units.{is_number}
use Rattle.double_checker.proofs.prices.first_no_price.Given as goal

abbrev pub invariant-loop-j : goal.invariant-loop-j
invariant-loop-j l = (i : ℕ) → i < l.j → IsTrue (is_number (get_or l.prices i nan))
