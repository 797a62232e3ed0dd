-- Finite doubles, and costs turned.
use mathlib.Core.Path.{◌≡◌, refl, sym}
use mathlib.Core.Bool.{true, false, not, true≢false}
use lib.Dec.{T}
use lib.Ieee.{Float, nan, inf, fin, neg, lt, of_bits, binary64, fits, is_nan}
use lib.Ieee.Fits.{neg-fits}
use lib.IntN.{pos, neg_ℤ}
use Rattle.std.proofs.Common.{IsTrue, ℕ, zero, suc}
use Rattle.assign_core.specs.declared.sense.Sense.{Sense}
use Rattle.assign_core.specs.declared.sense.Sense.TheVariants.{Min, Max}
use Rattle.cost_lists.specs.Own.{minimised}
use Rattle.double_costs.specs.Units.{is_number, units_of, size_in_units}
use Rattle.double_costs.specs.DoubleRows.{is_cost}
use Rattle.double_checker.specs.inside.Sizes.{size_of}
use Rattle.double_checker.specs.inside.Pairs.{turned}

pub number_above : (x : Float) → lt (of_bits binary64 18442240474082181120) x ≡ true →
    lt x (of_bits binary64 9218868437227405312) ≡ is_number x
unfolding lt of_bits
number_above nan h = refl
number_above (inf false) h = refl
number_above (inf true) h = absurd (true≢false (sym h))
number_above (fin s m e) h = refl

pub number_not_above : (x : Float) → lt (of_bits binary64 18442240474082181120) x ≡ false →
    lt (of_bits binary64 18442240474082181120) x ≡ is_number x
unfolding lt of_bits
number_not_above nan h = refl
number_not_above (inf false) h = absurd (true≢false h)
number_not_above (inf true) h = refl
number_not_above (fin s m e) h = refl

pub number_below : (x : Float) → IsTrue (is_number x) → lt x (of_bits binary64 9218868437227405312) ≡ true
unfolding lt of_bits
number_below nan h = absurd (true≢false (sym h))
number_below (inf s) h = absurd (true≢false (sym h))
number_below (fin s m e) h = refl

pub above_number : (x : Float) → IsTrue (is_number x) → lt (of_bits binary64 18442240474082181120) x ≡ true
unfolding lt of_bits
above_number nan h = absurd (true≢false (sym h))
above_number (inf s) h = absurd (true≢false (sym h))
above_number (fin s m e) h = refl

pub no_nan : (x : Float) → IsTrue (is_number x) → T (not (is_nan x))
unfolding is_nan
no_nan nan h = absurd (true≢false (sym h))
no_nan (inf s) h = tt
no_nan (fin s m e) h = tt

twice : (n : ℕ) → pos n ≡ neg_ℤ (neg_ℤ (pos n))
twice zero = refl
twice (suc n) = refl

pub units_neg : (x : Float) → units_of (neg x) ≡ neg_ℤ (units_of x)
unfolding neg
units_neg nan = refl
units_neg (inf s) = refl
units_neg (fin true m e) = twice (size_in_units m e)
units_neg (fin false m e) = refl

pub number_neg : (x : Float) → IsTrue (is_number x) → IsTrue (is_number (neg x))
unfolding neg
number_neg nan h = h
number_neg (inf s) h = h
number_neg (fin s m e) h = h

size_neg : (x : Float) → size_of (neg x) ≡ size_of x
unfolding neg
size_neg nan = refl
size_neg (inf s) = refl
size_neg (fin s m e) = refl

pub number_turned : (sense : Sense) (x : Float) → IsTrue (is_number x) → IsTrue (is_number (turned sense x))
number_turned Min x h = h
number_turned Max x h = number_neg x h

pub units_turned : (sense : Sense) (x : Float) → units_of (turned sense x) ≡ minimised sense (units_of x)
units_turned Min x = refl
units_turned Max x = units_neg x

pub size_turned : (sense : Sense) (x : Float) → size_of (turned sense x) ≡ size_of x
size_turned Min x = refl
size_turned Max x = size_neg x

pub fits_turned : (sense : Sense) (x : Float) → T (fits binary64 x) → T (fits binary64 (turned sense x))
fits_turned Min x h = h
fits_turned Max x h = neg-fits binary64 x h

-- a finite double is a cost
pub number_is_cost : (sense : Sense) (x : Float) → IsTrue (is_number x) → IsTrue (is_cost sense x)
number_is_cost Min nan h = h
number_is_cost Min (inf s) h = absurd (true≢false (sym h))
number_is_cost Min (fin s m e) h = refl
number_is_cost Max nan h = h
number_is_cost Max (inf s) h = absurd (true≢false (sym h))
number_is_cost Max (fin s m e) h = refl

pub zero_is : of_bits binary64 0 ≡ fin false 0 (pos 0)
unfolding of_bits
zero_is = refl

pub zero_fits : T (fits binary64 (fin false 0 (pos 0)))
unfolding fits
zero_fits = tt
