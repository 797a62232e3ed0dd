-- Rounded fractions in order are of whole numbers of units in order.
use Prim.Native.Nat.{ℕ, zero, suc, ◌-◌, ◌*◌, ◌/◌, ◌%◌, ◌^◌, ◌≤◌, ◌<◌}
use mathlib.Core.Path.{◌≡◌, refl, sym, ap, ◌∙◌, subst}
use native.Mathlib.Omega.{arith}
use native.Mathlib.Nat.{lt_of_not-le, mul-pos, le_of_suc-le-suc, lt_irrefl, lt_of_lt_of_le, div-one, mul-one}
use native.Mathlib.Nat.{one-mul, mul_assoc, mul_comm, mul_right_comm, mul-div_cancel, zero-mul}
use native.Mathlib.Nat.{lt_of_mul-lt-mul_right, mul-lt-mul_of_pos_right}
use mathlib.Core.Bool.{Bool, true, false, ◌&&◌}
use lib.IntN.{ℤ, pos, negsuc, neg_ℤ}
use lib.Dec.{T, eqb, ltb, leb, leb→le, eqb→eq}
use lib.Pow.{pow-lt, pow-add, pow_pos}
use lib.Ieee.{Float, fin, Format, prec, emax, low, up, down, fits}
use lib.Ieee.Digits.{back}
use lib.Ieee.Fits.{and_l, and_r}
use lib.Ieee.{round, lt, neg}
use lib.Ieee.Order.{round_mono}
use Rattle.std.proofs.Common.{◌<ℤ◌}
use Rattle.std.proofs.lemmas.Int.{ints}
use Rattle.std.proofs.lemmas.Float.{lt_of_le_of_lt, lt_irrefl as float_lt_irrefl}
use Rattle.double_costs.proofs.RoundedOrder.{neg-round, turned, round_has_sign, not_below, rounded_zero, zeros_not_below}

-- 2 ^ -l times a unit is at least as fine as the exponent of what fits
fine_zero : (f : Format) (e : ℤ) → up e * down e ≡ 1 → down e ≤ 2 ^ low f
fine_zero f (pos k) h = pow_pos (low f)
fine_zero f (negsuc k) h = subst (λ (x : ℕ). x ≤ 2 ^ low f) (sym (sym (one-mul (2 ^ suc k)) ∙ h)) (pow_pos (low f))

pub fine : (f : Format) (s : Bool) (m : ℕ) (e : ℤ) → T (fits f (fin s m e)) → down e ≤ 2 ^ low f
unfolding fits
fine f s zero e h = fine_zero f e (eqb→eq (up e * down e) 1 h)
fine f s (suc m) e h =
    leb→le (down e) (2 ^ low f)
    (and_r (eqb (suc m % 2) 1 && ltb (suc m) (2 ^ prec f)) (leb (down e) (2 ^ low f))
    (and_l (eqb (suc m % 2) 1 && ltb (suc m) (2 ^ prec f) && leb (down e) (2 ^ low f)) (ltb (suc m * up e) (2 ^ suc (emax f) * down e)) h))

pow_le_back : (a l : ℕ) → 2 ^ a ≤ 2 ^ l → a ≤ l
pow_le_back a l h = le_of_suc-le-suc (lt_of_not-le (λ (g : suc l ≤ a). lt_irrefl (2 ^ l) (lt_of_lt_of_le (pow-lt g) h)))

-- m * 2 ^ e in units of 2 ^ -l
abbrev pub size_in : ℕ → ℕ → ℤ → ℕ
size_in l m e = m * up e * 2 ^ l / down e

-- nothing is cut off
pub whole : (l m : ℕ) (e : ℤ) → down e ≤ 2 ^ l → size_in l m e * down e ≡ m * up e * 2 ^ l
whole l m (pos a) h = mul-one (m * 2 ^ a * 2 ^ l / 1) ∙ div-one (m * 2 ^ a * 2 ^ l)
whole l m (negsuc a) h =
    let le : suc a ≤ l = pow_le_back (suc a) l h in
    let b : ℕ = 2 ^ suc a in
    let rest : ℕ = m * 1 * 2 ^ (l - suc a) in
    let q : m * 1 * 2 ^ l ≡ rest * b =
    ap (λ (x : ℕ). m * 1 * x) (ap (λ (x : ℕ). 2 ^ x) (sym (back l (suc a) le)) ∙ pow-add 2 (l - suc a) (suc a)) ∙
    sym (mul_assoc (m * 1) (2 ^ (l - suc a)) (2 ^ suc a)) in
    ap (λ (x : ℕ). x / b * b) q ∙ ap (λ (x : ℕ). x * b) (mul-div_cancel rest (pow_pos (suc a))) ∙ sym q

-- a whole number with a sign
abbrev pub signed : Bool → ℕ → ℤ
signed false n = pos n
signed true n = neg_ℤ (pos n)

-- x is a rounded fraction n / c with a sign, which is z units of 2 ^ -l
pub record IsRounded (f : Format) (l : ℕ) (x : Float) (z : ℤ) : Type 0 where
  pub s : Bool
  pub n : ℕ
  pub c : ℕ
  pub u : ℕ
  pub c_pos : 0 < c
  pub scaled : n * 2 ^ l ≡ u * c
  pub rounded : x ≡ round f s n c
  pub is : z ≡ signed s u

-- n / c < k / d in units
cross : (n k c d u v l : ℕ) → 0 < l → n * l ≡ u * c → k * l ≡ v * d → n * d < k * c → u < v
cross n k c d u v l pl p q h =
    let r : n * d * l < k * c * l = mul-lt-mul_of_pos_right h pl in
    let left : n * d * l ≡ u * (c * d) = mul_right_comm n d l ∙ ap (λ (x : ℕ). x * d) p ∙ mul_assoc u c d in
    let right : k * c * l ≡ v * (c * d) = mul_right_comm k c l ∙ ap (λ (x : ℕ). x * c) q ∙ mul_assoc v d c ∙ ap (λ (x : ℕ). v * x) (mul_comm d c) in
    lt_of_mul-lt-mul_right (c * d) (subst (λ (z : ℕ). u * (c * d) < z) right (subst (λ (z : ℕ). z < k * c * l) left r))

-- of two fractions without a minus sign
sizes_in_order : (f : Format) (l n c u k d v : ℕ) → 0 < c → 0 < d → n * 2 ^ l ≡ u * c → k * 2 ^ l ≡ v * d →
    T (lt (round f false n c) (round f false k d)) → u < v
sizes_in_order f l n c u k d v hc hd p q h =
    cross n k c d u v (2 ^ l) (pow_pos l) p q
    (lt_of_not-le (λ g. float_lt_irrefl (round f false k d) (lt_of_le_of_lt (round f false k d) (round f false n c)
    (round f false k d) (round_mono f k d n c hd hc g) h)))

pub no_product : (n l : ℕ) → 0 < l → n * l ≡ 0 → n ≡ 0
no_product zero l h p = refl
no_product (suc n) l h p = absurd (omega (arith, mul-pos {m = suc n} {n = l} (omega arith) h))

negative_below : (u v : ℕ) → (u ≡ 0 → v ≡ 0 → ⊥) → neg_ℤ (pos u) <ℤ pos v
negative_below zero zero h = absurd (h refl refl)
negative_below zero (suc v) h = omega (arith, ints)
negative_below (suc u) v h = omega (arith, ints)

negatives : (u v : ℕ) → v < u → neg_ℤ (pos u) <ℤ neg_ℤ (pos v)
negatives u v h = omega (arith, ints)

positives : (u v : ℕ) → u < v → pos u <ℤ pos v
positives u v h = omega (arith, ints)

pub in_order : (f : Format) (l : ℕ) (x y : Float) (z w : ℤ) → IsRounded f l x z → IsRounded f l y w → T (lt x y) → z <ℤ w
in_order f l x y z w p q h =
    subst (λ (a : ℤ). a <ℤ w) (sym p.is) (subst (λ (a : ℤ). signed p.s p.u <ℤ a) (sym q.is)
    (go p.s q.s p.n p.c p.u q.n q.c q.u p.c_pos q.c_pos p.scaled q.scaled
    (subst (λ (a : Float). T (lt a (round f q.s q.n q.c))) p.rounded (subst (λ (a : Float). T (lt x a)) q.rounded h))))
  where
    go : (s t : Bool) (n c u k d v : ℕ) → 0 < c → 0 < d → n * 2 ^ l ≡ u * c → k * 2 ^ l ≡ v * d →
        T (lt (round f s n c) (round f t k d)) → signed s u <ℤ signed t v
    go false false n c u k d v hc hd a b o = positives u v (sizes_in_order f l n c u k d v hc hd a b o)
    go false true n c u k d v hc hd a b o = absurd (not_below (round f false n c) (round f true k d) (round_has_sign f false n c) (round_has_sign f true k d) o)
    go true false n c u k d v hc hd a b o = negative_below u v (λ e g.
        let n0 : n ≡ 0 = no_product n (2 ^ l) (pow_pos l) (a ∙ ap (λ (i : ℕ). i * c) e ∙ zero-mul c) in
        let k0 : k ≡ 0 = no_product k (2 ^ l) (pow_pos l) (b ∙ ap (λ (i : ℕ). i * d) g ∙ zero-mul d) in
        zeros_not_below (round f true 0 c) (round f false 0 d) c d hc hd (rounded_zero f true c hc) (rounded_zero f false d hd)
        (subst (λ (i : ℕ). T (lt (round f true i c) (round f false 0 d))) n0 (subst (λ (i : ℕ). T (lt (round f true n c) (round f false i d))) k0 o)))
    go true true n c u k d v hc hd a b o =
        negatives u v (sizes_in_order f l k d v n c u hd hc b a
        (turned (round f false n c) (round f false k d)
        (subst (λ (i : Float). T (lt i (neg (round f false k d)))) (sym (neg-round f n c))
        (subst (λ (i : Float). T (lt (round f true n c) i)) (sym (neg-round f k d)) o))))
