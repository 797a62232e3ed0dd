use Rattle.std.proofs.Common.{ℕ, ◌<◌, get_or}
use lib.Ieee.{Float}
use Rattle.c_wide.specs.exact.Units.{IsWithin}
use Rattle.c_wide.proofs.exact.unit.first_above.Given as goal

-- the costs before are within
abbrev pub invariant-loop-k : goal.invariant-loop-k
invariant-loop-k l = (i : ℕ) (d : Float) → i < l.k → IsWithin l.unit (get_or l.costs i d)
