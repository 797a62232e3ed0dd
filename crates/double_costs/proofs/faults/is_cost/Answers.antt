use mathlib.Core.Bool.{true, false}
use mathlib.Core.Path.{◌≡◌, refl}
use lib.Ieee.{Float, nan, inf, fin, lt, of_bits, binary64}
use Rattle.assign_core.specs.declared.sense.Sense.TheVariants.{Min, Max}
use Rattle.double_costs.specs.DoubleRows.{is_cost}
use Rattle.double_costs.proofs.faults.is_cost.Goals as goal

above : (x : Float) → lt (of_bits binary64 18442240474082181120) x ≡ is_cost Min x
unfolding lt of_bits
above nan = refl
above (inf false) = refl
above (inf true) = refl
above (fin s m e) = refl

below : (x : Float) → lt x (of_bits binary64 9218868437227405312) ≡ is_cost Max x
unfolding lt of_bits
below nan = refl
below (inf false) = refl
below (inf true) = refl
below (fin s m e) = refl

pub returns-in-Min : goal.returns-in-Min
returns-in-Min c = rw c.in-Min.is (above c.args.cost)

pub returns-in-Max : goal.returns-in-Max
returns-in-Max c = rw c.in-Max.is (below c.args.cost)
