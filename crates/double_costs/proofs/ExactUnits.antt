-- A finite double is a whole number of units, with nothing cut off.
use mathlib.Core.Path.{refl}
use lib.Dec.{T}
use lib.Ieee.{Float, nan, inf, fin, binary64, fits}
use Rattle.std.proofs.Common.{IsTrue, rules}
use Rattle.double_costs.specs.Units.{IsExactly, is_number, size_in_units, units_of}
use Rattle.double_costs.proofs.RoundedUnits.{fine, whole}

pub exact : (x : Float) → T (fits binary64 x) → IsTrue (is_number x) → IsExactly x (units_of x)
exact nan f n = absurd (search rules)
exact (inf s) f n = absurd (search rules)
exact (fin s m e) f n = (size_in_units m e, refl, whole 1074 m e (fine binary64 s m e f))
