use Rattle.std.proofs.Common.{ℕ, ◌<◌, get_or, IsTrue}
use lib.Ieee.{Float}
use Rattle.double_costs.specs.Units.{is_number}
use Rattle.c_wide.proofs.exact.costs.are_finite.Given as goal

-- the costs before are finite
abbrev pub invariant-loop-k : goal.invariant-loop-k
invariant-loop-k l = (i : ℕ) (d : Float) → i < l.k → IsTrue (is_number (get_or l.costs i d))
