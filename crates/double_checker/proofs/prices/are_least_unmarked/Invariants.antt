use Rattle.std.proofs.Common.{ℕ, ◌<◌, ◌≡◌, ◌⊎◌, ◌≤ℤ◌, true, false, get_or}
use lib.Ieee.{nan}
use Rattle.double_costs.specs.Units.{units_of}
use Rattle.double_checker.proofs.prices.are_least_unmarked.Given as goal

abbrev pub invariant-loop-j : goal.invariant-loop-j
invariant-loop-j l = (i : ℕ) → i < l.j →
    (get_or l.owned i false ≡ true) ⊎ (units_of (get_or l.prices i nan) ≤ℤ units_of l.least)
