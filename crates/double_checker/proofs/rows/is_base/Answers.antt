use mathlib.Core.Path.{sym, subst, ◌∙◌, ◌≡◌}
use lib.Dec.{T}
use lib.Ieee.{Float, lt, add, binary64, of_bits, fits, fin}
use lib.IntN.{pos}
use Rattle.std.proofs.Common.{IsTrue, false, not, arith, refl}
use Rattle.std.proofs.lemmas.Int.{ints}
use Rattle.std.proofs.lemmas.Float.{T_from_true, T_from_false}
use Rattle.double_costs.specs.Units.{is_number}
use Rattle.double_costs.proofs.RoundedSums.{sums_tell}
use Rattle.double_checker.specs.inside.Plans.{IsBase}
use Rattle.double_checker.proofs.Finite.{zero_is, zero_fits}
use Rattle.double_checker.proofs.FloatOrder.{no_less_units}
use Rattle.double_checker.proofs.rows.is_base.Goals as goal

base_is : (a p b m : Float) → T (fits binary64 a) → T (fits binary64 p) → T (fits binary64 b) →
    T (fits binary64 m) → IsTrue (is_number a) → IsTrue (is_number p) → IsTrue (is_number b) → IsTrue (is_number m)
    → lt m (of_bits binary64 0) ≡ false → IsTrue (lt (add binary64 a p) (add binary64 b (of_bits binary64 0))) →
    IsBase a p b m
base_is a p b m fa fp fb fm na np nb nm low h =
    let l = sums_tell a p b (fin false 0 (pos 0)) fa fp fb zero_fits na np nb refl
    (subst (λ (z : Float). T (lt (add binary64 a p) (add binary64 b z))) zero_is (T_from_true _ h)) in
    let g = no_less_units m (fin false 0 (pos 0)) fm zero_fits nm
    refl (subst (λ (z : Float). T (not (lt m z))) zero_is (T_from_false _ low)) in
    record { base_finite = nb; margin_finite = nm; below = omega (arith, ints); no_less = g }

pub returns : goal.returns
returns c h =
    let w = c.well_formed in
    base_is c.args.own_cost c.args.own_price c.args.base c.args.margin (subst T (sym w.0.1) tt)
    (subst T (sym w.1.0.1) tt) (subst T (sym w.1.1.0.1) tt) (subst T (sym w.1.1.1.0.1) tt)
    c.requires.own_cost c.requires.own_price (sym c.is_number.ensures ∙ c.if-not-is_number.false)
    (sym c.is_number-2.ensures ∙ c.if-not-is_number-2.false) c.if-margin.false h
