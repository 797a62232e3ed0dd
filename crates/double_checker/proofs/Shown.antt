-- What comparisons of rounded sums show of costs with their prices.
use mathlib.Core.Path.{◌≡◌, refl, sym, subst}
use mathlib.Core.Bool.{true, false, true≢false}
use native.Mathlib.Omega.{arith}
use lib.Dec.{T}
use lib.IntN.{ℤ}
use lib.Ieee.{Float, nan, inf, fin, neg, lt, add, binary64, fits}
use lib.Ieee.Fits.{neg-fits}
use Rattle.std.proofs.Common.{◌+ℤ◌, ◌<ℤ◌, ◌≤ℤ◌, IsTrue, inl, inr, ◌⊎◌, [], ◌∷◌, ℕ}
use Rattle.std.proofs.lemmas.Int.{ints}
use Rattle.std.proofs.lemmas.Float.{T_from_true}
use Rattle.assign_core.specs.declared.sense.Sense.{Sense}
use Rattle.assign_core.specs.declared.sense.Sense.TheVariants.{Min, Max}
use Rattle.double_costs.specs.Units.{is_number, units_of}
use Rattle.double_costs.specs.DoubleRows.{is_cost}
use Rattle.double_costs.proofs.RoundedSums.{sums_tell}
use Rattle.double_checker.specs.Far.{HasFar}
use Rattle.double_checker.specs.inside.Sizes.{size_of}
use Rattle.double_checker.specs.inside.Pairs.{IsAbove, IsAtLeast, IsOpen, paid, turned}
use Rattle.double_checker.proofs.Finite.{units_neg, number_neg, number_turned, units_turned, size_turned, fits_turned}
use Rattle.double_checker.proofs.Finite.{number_is_cost}

not_below_nan : (x : Float) → T (lt x nan) → ⊥
unfolding lt
not_below_nan nan h = h
not_below_nan (inf s) h = h
not_below_nan (fin s m e) h = h

not_below_least : (x : Float) → T (lt x (inf true)) → ⊥
unfolding lt
not_below_least nan h = h
not_below_least (inf true) h = h
not_below_least (inf false) h = h
not_below_least (fin s m e) h = h

least_plus : (price : Float) → IsTrue (is_number price) → add binary64 (inf true) price ≡ inf true
unfolding add
least_plus nan n = absurd (true≢false (sym n))
least_plus (inf s) n = absurd (true≢false (sym n))
least_plus (fin s m e) n = refl

nan_plus : (price : Float) → add binary64 nan price ≡ nan
unfolding add
nan_plus price = refl

-- what is above something with its price is a cost
cost_shown : (sense : Sense) (x cost price : Float) → IsTrue (is_number price) →
    T (lt x (add binary64 (turned sense cost) price)) → IsTrue (is_cost sense cost)
unfolding neg
cost_shown Min x nan price n h = absurd (not_below_nan x (subst (λ (z : Float). T (lt x z)) (nan_plus price) h))
cost_shown Min x (inf false) price n h = refl
cost_shown Min x (inf true) price n
    h = absurd (not_below_least x (subst (λ (z : Float). T (lt x z)) (least_plus price n) h))
cost_shown Min x (fin s m e) price n h = refl
cost_shown Max x nan price n h = absurd (not_below_nan x (subst (λ (z : Float). T (lt x z)) (nan_plus price) h))
cost_shown Max x (inf true) price n h = refl
cost_shown Max x (inf false) price n
    h = absurd (not_below_least x (subst (λ (z : Float). T (lt x z)) (least_plus price n) h))
cost_shown Max x (fin s m e) price n h = refl

pub above_shown : (sense : Sense) (base margin cost price : Float) → T (fits binary64 base) →
    T (fits binary64 margin) → T (fits binary64 cost) → T (fits binary64 price)
    → IsTrue (is_number base) → IsTrue (is_number margin) → IsTrue (is_number price)
    → IsTrue (lt (add binary64 base margin) (add binary64 (turned sense cost) price)) →
    IsAbove sense (units_of base +ℤ units_of margin) cost price
above_shown sense base margin cost price fb fm fc fp nb nm np h =
    let t = T_from_true (lt (add binary64 base margin) (add binary64 (turned sense cost) price)) h in
    record {
      cost_is = cost_shown sense (add binary64 base margin) cost price np t;
      above = λ nc.
          subst (λ (z : ℤ). (units_of base +ℤ units_of margin) <ℤ (z +ℤ units_of price)) (units_turned sense cost)
          (sums_tell base margin (turned sense cost) price fb fm (fits_turned sense cost fc) fp nb nm
          (number_turned sense cost nc) np t);
    }

pub sums_at_most : (a b c d : Float) → T (fits binary64 a) → T (fits binary64 b) → T (fits binary64 c) →
    T (fits binary64 d)
    → IsTrue (is_number a) → IsTrue (is_number b) → IsTrue (is_number c) → IsTrue (is_number d)
    → IsTrue (lt (add binary64 a b) (add binary64 c d)) → (units_of a +ℤ units_of b) ≤ℤ (units_of c +ℤ units_of d)
sums_at_most a b c d fa fb fc fd na nb nc nd h =
    let l = sums_tell a b c d fa fb fc fd na nb nc nd (T_from_true (lt (add binary64 a b) (add binary64 c d)) h) in
    omega (arith, ints)

pub differences_at_most : (a b c d : Float) → T (fits binary64 a) → T (fits binary64 b) → T (fits binary64 c) →
    T (fits binary64 d)
    → IsTrue (is_number a) → IsTrue (is_number b) → IsTrue (is_number c) → IsTrue (is_number d)
    → IsTrue (lt (add binary64 a (neg c)) (add binary64 d (neg b))) →
    (units_of a +ℤ units_of b) ≤ℤ (units_of c +ℤ units_of d)
differences_at_most a b c d fa fb fc fd na nb nc nd h =
    let l = sums_tell a (neg c) d (neg b) fa (neg-fits binary64 c fc) fd (neg-fits binary64 b fb) na
    (number_neg c nc) nd (number_neg b nb) (T_from_true (lt (add binary64 a (neg c)) (add binary64 d (neg b))) h) in
    let x = units_neg c in
    let y = units_neg b in
    omega (arith, ints)

pub seen_turned : (sense : Sense) (own_cost own_price cost price : Float) → IsTrue (is_number cost)
    → (units_of (turned sense own_cost) +ℤ units_of own_price) ≤ℤ (units_of (turned sense cost) +ℤ units_of price) →
    IsAtLeast sense (paid sense own_cost own_price) cost price
seen_turned sense own_cost own_price cost price n h =
    let x = units_turned sense own_cost in
    let y = units_turned sense cost in
    record { cost_is = number_is_cost sense cost n; least = λ _. omega (arith, ints) }

pub open_turned : (sense : Sense) (own_cost own_price cost price : Float) → IsTrue (is_number cost)
    → ((units_of (turned sense cost) +ℤ units_of price) <ℤ (units_of (turned sense own_cost) +ℤ units_of own_price))
    ⊎ HasFar (size_of (turned sense own_cost) ∷ size_of own_price ∷ size_of (turned sense cost)
    ∷ size_of price ∷ [])
    → IsOpen sense own_cost own_price cost price
open_turned sense own_cost own_price cost price n h =
    let x = units_turned sense own_cost in
    let y = units_turned sense cost in
    inr (record {
      finite = n;
      reason = elim h [
        | inl l ↦ inl (omega (arith, ints))
        | inr f ↦ inr (subst (λ (z : ℕ). HasFar (z ∷ size_of own_price ∷ size_of cost ∷ size_of price ∷ []))
            (size_turned sense own_cost)
            (subst (λ (z : ℕ). HasFar (size_of (turned sense own_cost) ∷ size_of own_price ∷ z ∷ size_of price ∷ []))
            (size_turned sense cost) f))
      ];
    })
