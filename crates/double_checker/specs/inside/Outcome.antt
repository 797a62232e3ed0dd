-- A verdict on a plan, or a fault of the costs.
use Rattle.std.specs.Prelude.{◌≡◌, ℕ, ◌⊎◌, List, Bool}
use lib.Ieee.{Float}
use Rattle.assign_core.specs.declared.sense.Sense.{Sense}
use Rattle.double_costs.specs.DoubleRows.{IsFirstFault}
use Rattle.double_checker.specs.Verdicts.{AreCosts}
use Rattle.double_checker.specs.declared.verdict.Verdict.{Verdict}
use Rattle.double_checker.specs.declared.verdict.Verdict.TheVariants.{Cost, Best}

-- the second verdict is the first, which is Best or on costs without a fault, or their first fault
abbrev pub IsVerdictOrFault : Sense → List Float → Verdict → Verdict → Type 0
IsVerdictOrFault sense costs verdict other =
    ((other ≡ verdict) × (AreCosts sense costs ⊎ ((b : Bool) × (verdict ≡ Best b))))
    ⊎ ((k : ℕ) × (other ≡ Cost k) × IsFirstFault sense costs k)
