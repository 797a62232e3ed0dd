-- The order of finite doubles is that of their units.
use Prim.Native.Nat.{ℕ, zero, suc, ◌+◌, ◌*◌, ◌^◌, ◌≤◌, ◌<◌}
use mathlib.Core.Path.{◌≡◌, refl, sym, ap, ◌∙◌, subst}
use native.Mathlib.Omega.{arith}
use native.Mathlib.Nat.{mul-pos, mul-lt-mul_of_pos_right, lt_of_mul-lt-mul_right, zero-mul}
use mathlib.Core.Bool.{Bool, true, false, not, true≢false}
use lib.IntN.{ℤ, pos, neg_ℤ}
use lib.Dec.{T, nltb→le, ltb→lt}
use lib.Pow.{pow_pos}
use lib.Ieee.{Float, nan, inf, fin, binary64, up, down, lt, below, fits}
use lib.Ieee.Fits.{down_pos}
use Rattle.std.proofs.Common.{◌<ℤ◌, ◌≤ℤ◌, IsTrue}
use Rattle.std.proofs.lemmas.Int.{ints}
use Rattle.double_costs.specs.Units.{is_number, units_of}
use Rattle.double_costs.proofs.RoundedUnits.{signed, size_in, fine, whole, no_product}
use Rattle.double_costs.proofs.RoundedSums.{first, second, in_units}

under : (a b u v l c : ℕ) → 0 < l → a * l ≡ u * c → b * l ≡ v * c → a < b → u < v
under a b u v l c pl p q h =
    lt_of_mul-lt-mul_right c
    (subst (λ (x : ℕ). u * c < x) q (subst (λ (x : ℕ). x < b * l) p (mul-lt-mul_of_pos_right h pl)))

none : (a u l c : ℕ) → 0 < l → 0 < c → a * l ≡ u * c → u ≡ 0 → a ≡ 0
none a u l c pl pc p e = no_product a l pl (p ∙ ap (λ (x : ℕ). x * c) e ∙ zero-mul c)

no_units : (a u l c : ℕ) → 0 < l → 0 < c → a * l ≡ u * c → a ≡ 0 → u ≡ 0
no_units a u l c pl pc p e = no_product u c pc (sym p ∙ ap (λ (x : ℕ). x * l) e ∙ zero-mul l)

negative_below : (u v : ℕ) → (u ≡ 0 → v ≡ 0 → ⊥) → neg_ℤ (pos u) <ℤ pos v
negative_below zero zero h = absurd (h refl refl)
negative_below zero (suc v) h = omega (arith, ints)
negative_below (suc u) v h = omega (arith, ints)

below_signed : (s t : Bool) (a b u v l c : ℕ) → 0 < l → 0 < c → a * l ≡ u * c → b * l ≡ v * c → T (below s a t b) →
    signed s u <ℤ signed t v
below_signed false false a b u v l c pl pc p q h = let k : u < v = under a b u v l c pl p q (ltb→lt a b h) in
    omega (arith, ints)
below_signed false true a b u v l c pl pc p q h = absurd h
below_signed true false a b u v l c pl pc p q h =
    negative_below u v (λ e g.
    let x : a ≡ 0 = none a u l c pl pc p e in
    let y : b ≡ 0 = none b v l c pl pc q g in
    let z : 0 < a + b = ltb→lt 0 (a + b) h in
    omega arith)
below_signed true true a b u v l c pl pc p q h = let k : v < u = under b a v u l c pl q p (ltb→lt b a h) in
    omega (arith, ints)

not_below_signed : (s t : Bool) (a b u v l c : ℕ) → 0 < l → 0 < c → a * l ≡ u * c → b * l ≡ v * c →
    T (not (below s a t b)) → signed t v ≤ℤ signed s u
not_below_signed false false a b u v l c pl pc p q h = let k : v ≤ u = in_units b a v u l c pc q p (nltb→le a b h) in
    omega (arith, ints)
not_below_signed false true a b u v l c pl pc p q h = omega (arith, ints)
not_below_signed true false a b u v l c pl pc p q h =
    let z : a + b ≤ 0 = nltb→le 0 (a + b) h in
    let x : u ≡ 0 = no_units a u l c pl pc p (omega arith) in
    let y : v ≡ 0 = no_units b v l c pl pc q (omega arith) in
    omega (arith, ints)
not_below_signed true true a b u v l c pl pc p q h = let k : u ≤ v = in_units a b u v l c pc p q (nltb→le b a h) in
    omega (arith, ints)

by_sign : (s : Bool) (m : ℕ) (e : ℤ) → units_of (fin s m e) ≡ signed s (size_in 1074 m e)
by_sign false m e = refl
by_sign true m e = refl

pub less_units : (x y : Float) → T (fits binary64 x) → T (fits binary64 y) → IsTrue (is_number x) →
    IsTrue (is_number y) → T (lt x y) → units_of x <ℤ units_of y
unfolding lt
less_units nan y fx fy nx ny h = absurd (true≢false (sym nx))
less_units (inf s) y fx fy nx ny h = absurd (true≢false (sym nx))
less_units (fin s m e) nan fx fy nx ny h = absurd (true≢false (sym ny))
less_units (fin s m e) (inf t) fx fy nx ny h = absurd (true≢false (sym ny))
less_units (fin s m e) (fin t n d) fx fy nx ny h =
    subst (λ (z : ℤ). z <ℤ units_of (fin t n d)) (sym (by_sign s m e))
    (subst (λ (z : ℤ). signed s (size_in 1074 m e) <ℤ z) (sym (by_sign t n d))
    (below_signed s t (m * up e * down d) (n * up d * down e) (size_in 1074 m e) (size_in 1074 n d) (2 ^ 1074)
    (down e * down d) (pow_pos 1074) (mul-pos (down_pos e) (down_pos d))
    (first (m * up e) (2 ^ 1074) (size_in 1074 m e) (down e) (down d) (whole 1074 m e (fine binary64 s m e fx)))
    (second (n * up d) (2 ^ 1074) (size_in 1074 n d) (down d) (down e) (whole 1074 n d (fine binary64 t n d fy))) h))

pub no_less_units : (x y : Float) → T (fits binary64 x) → T (fits binary64 y) → IsTrue (is_number x) →
    IsTrue (is_number y) → T (not (lt x y)) → units_of y ≤ℤ units_of x
unfolding lt
no_less_units nan y fx fy nx ny h = absurd (true≢false (sym nx))
no_less_units (inf s) y fx fy nx ny h = absurd (true≢false (sym nx))
no_less_units (fin s m e) nan fx fy nx ny h = absurd (true≢false (sym ny))
no_less_units (fin s m e) (inf t) fx fy nx ny h = absurd (true≢false (sym ny))
no_less_units (fin s m e) (fin t n d) fx fy nx ny h =
    subst (λ (z : ℤ). units_of (fin t n d) ≤ℤ z) (sym (by_sign s m e))
    (subst (λ (z : ℤ). z ≤ℤ signed s (size_in 1074 m e)) (sym (by_sign t n d))
    (not_below_signed s t (m * up e * down d) (n * up d * down e) (size_in 1074 m e) (size_in 1074 n d) (2 ^ 1074)
    (down e * down d) (pow_pos 1074) (mul-pos (down_pos e) (down_pos d))
    (first (m * up e) (2 ^ 1074) (size_in 1074 m e) (down e) (down d) (whole 1074 m e (fine binary64 s m e fx)))
    (second (n * up d) (2 ^ 1074) (size_in 1074 n d) (down d) (down e) (whole 1074 n d (fine binary64 t n d fy))) h))
