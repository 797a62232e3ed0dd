-- What rounded sums of two doubles show of the sums in units.
use Prim.Native.Nat.{ℕ, ◌+◌, ◌-◌, ◌*◌, ◌^◌, ◌≤◌, ◌<◌}
use mathlib.Core.Path.{◌≡◌, refl, sym, ap, ◌∙◌}
use native.Mathlib.Omega.{arith}
use native.Mathlib.Nat.{mul-pos, mul_assoc, mul_comm, mul_right_comm, add-mul, mul-sub, mul-le-mul_right, le_of_mul-le-mul_right, le_of_lt, le_of_eq, le_trans}
use mathlib.Core.Bool.{Bool, true, false, not, ◌&&◌, cond, true≢false}
use lib.IntN.{pos, neg_ℤ}
use lib.Dec.{T, ltb, nltb→le, ltb→lt}
use lib.Ieee.{Float, nan, inf, fin, Format, binary64, up, down, round, add, sum, lt, fits}
use lib.Ieee.Fits.{down_pos}
use Rattle.std.proofs.Common.{◌+ℤ◌, ◌<ℤ◌, IsTrue}
use Rattle.std.proofs.lemmas.Int.{ints}
use Rattle.double_costs.specs.Units.{is_number, units_of}
use Rattle.double_costs.proofs.RoundedUnits.{IsRounded, signed, size_in, fine, whole, in_order}

sub_mul : (x y l : ℕ) → (x - y) * l ≡ x * l - y * l
sub_mul x y l = mul_comm (x - y) l ∙ mul-sub l x y ∙ ap (λ (z : ℕ). z - l * y) (mul_comm l x) ∙ ap (λ (z : ℕ). x * l - z) (mul_comm l y)

added : (a b u v l c : ℕ) → a * l ≡ u * c → b * l ≡ v * c → (a + b) * l ≡ (u + v) * c
added a b u v l c p q = add-mul a b l ∙ ap (λ (x : ℕ). x + b * l) p ∙ ap (λ (x : ℕ). u * c + x) q ∙ sym (add-mul u v c)

less : (a b u v l c : ℕ) → a * l ≡ u * c → b * l ≡ v * c → (a - b) * l ≡ (u - v) * c
less a b u v l c p q = sub_mul a b l ∙ ap (λ (x : ℕ). x - b * l) p ∙ ap (λ (x : ℕ). u * c - x) q ∙ sym (sub_mul u v c)

pub in_units : (a b u v l c : ℕ) → 0 < c → a * l ≡ u * c → b * l ≡ v * c → a ≤ b → u ≤ v
in_units a b u v l c h p q le = le_of_mul-le-mul_right (le_trans (le_of_eq (sym p)) (le_trans (mul-le-mul_right l le) (le_of_eq q))) h

sum_rounded : (f : Format) (l : ℕ) (s : Bool) (a : ℕ) (t : Bool) (b c u v : ℕ) → 0 < c → a * 2 ^ l ≡ u * c → b * 2 ^ l ≡ v * c
    → IsRounded f l (sum f s a t b c) (signed s u +ℤ signed t v)
unfolding sum
sum_rounded f l false a false b c u v h p q =
    record { s = false; n = a + b; c = c; u = u + v; c_pos = h; scaled = added a b u v (2 ^ l) c p q; rounded = refl; is = omega (arith, ints) }
sum_rounded f l true a true b c u v h p q =
    record { s = true; n = a + b; c = c; u = u + v; c_pos = h; scaled = added a b u v (2 ^ l) c p q; rounded = refl; is = omega (arith, ints) }
sum_rounded f l false a true b c u v h p q = go (ltb a b) (ltb→lt a b) (nltb→le a b)
  where
    go : (x : Bool) → (T x → a < b) → (T (not x) → b ≤ a) →
        IsRounded f l (cond x (round f true (b - a) c) (round f (false && ltb b a) (a - b) c)) (pos u +ℤ neg_ℤ (pos v))
    go true below above =
        let k : u ≤ v = in_units a b u v (2 ^ l) c h p q (le_of_lt (below tt)) in
        record { s = true; n = b - a; c = c; u = v - u; c_pos = h; scaled = less b a v u (2 ^ l) c q p; rounded = refl; is = omega (arith, ints) }
    go false below above =
        let k : v ≤ u = in_units b a v u (2 ^ l) c h q p (above tt) in
        record { s = false; n = a - b; c = c; u = u - v; c_pos = h; scaled = less a b u v (2 ^ l) c p q; rounded = refl; is = omega (arith, ints) }
sum_rounded f l true a false b c u v h p q = go (ltb a b) (ltb→lt a b) (nltb→le a b)
  where
    equal : (x : Bool) → b ≤ a → (T x → b < a) → (T (not x) → a ≤ b) → IsRounded f l (round f x (a - b) c) (neg_ℤ (pos u) +ℤ pos v)
    equal true le below above =
        let k : v ≤ u = in_units b a v u (2 ^ l) c h q p le in
        record { s = true; n = a - b; c = c; u = u - v; c_pos = h; scaled = less a b u v (2 ^ l) c p q; rounded = refl; is = omega (arith, ints) }
    equal false le below above =
        let k : v ≤ u = in_units b a v u (2 ^ l) c h q p le in
        let j : u ≤ v = in_units a b u v (2 ^ l) c h p q (above tt) in
        record { s = false; n = a - b; c = c; u = u - v; c_pos = h; scaled = less a b u v (2 ^ l) c p q; rounded = refl; is = omega (arith, ints) }

    go : (x : Bool) → (T x → a < b) → (T (not x) → b ≤ a) →
        IsRounded f l (cond x (round f false (b - a) c) (round f (true && ltb b a) (a - b) c)) (neg_ℤ (pos u) +ℤ pos v)
    go true below above =
        let k : u ≤ v = in_units a b u v (2 ^ l) c h p q (le_of_lt (below tt)) in
        record { s = false; n = b - a; c = c; u = v - u; c_pos = h; scaled = less b a v u (2 ^ l) c q p; rounded = refl; is = omega (arith, ints) }
    go false below above = equal (ltb b a) (above tt) (ltb→lt b a) (nltb→le b a)

pub first : (a l u e d : ℕ) → u * e ≡ a * l → a * d * l ≡ u * (e * d)
first a l u e d h = mul_right_comm a d l ∙ ap (λ (x : ℕ). x * d) (sym h) ∙ mul_assoc u e d

pub second : (b l v d e : ℕ) → v * d ≡ b * l → b * e * l ≡ v * (e * d)
second b l v d e h = mul_right_comm b e l ∙ ap (λ (x : ℕ). x * e) (sym h) ∙ mul_assoc v d e ∙ ap (λ (x : ℕ). v * x) (mul_comm d e)

-- the sum of two finite doubles is rounded from the sum of their units
pub add_rounded : (a b : Float) → T (fits binary64 a) → T (fits binary64 b) → IsTrue (is_number a) → IsTrue (is_number b)
    → IsRounded binary64 1074 (add binary64 a b) (units_of a +ℤ units_of b)
unfolding add
add_rounded nan b fa fb na nb = absurd (true≢false (sym na))
add_rounded (inf s) b fa fb na nb = absurd (true≢false (sym na))
add_rounded (fin s m e) nan fa fb na nb = absurd (true≢false (sym nb))
add_rounded (fin s m e) (inf t) fa fb na nb = absurd (true≢false (sym nb))
add_rounded (fin s m e) (fin t n d) fa fb na nb = go s t
  where
    rest : (x y : Bool) → IsRounded binary64 1074 (sum binary64 x (m * up e * down d) y (n * up d * down e)
        (down e * down d)) (signed x (size_in 1074 m e) +ℤ signed y (size_in 1074 n d))
    rest x y = sum_rounded binary64 1074 x (m * up e * down d) y (n * up d * down e) (down e * down d)
        (size_in 1074 m e) (size_in 1074 n d) (mul-pos (down_pos e) (down_pos d))
        (first (m * up e) (2 ^ 1074) (size_in 1074 m e) (down e) (down d) (whole 1074 m e (fine binary64 s m e fa)))
        (second (n * up d) (2 ^ 1074) (size_in 1074 n d) (down d) (down e) (whole 1074 n d (fine binary64 t n d fb)))

    go : (x y : Bool) → IsRounded binary64 1074 (sum binary64 x (m * up e * down d) y (n * up d * down e)
        (down e * down d)) (units_of (fin x m e) +ℤ units_of (fin y n d))
    go false false = rest false false
    go false true = rest false true
    go true false = rest true false
    go true true = rest true true

pub sums_tell : (a b c d : Float) → T (fits binary64 a) → T (fits binary64 b) → T (fits binary64 c) → T (fits binary64 d)
    → IsTrue (is_number a) → IsTrue (is_number b) → IsTrue (is_number c) → IsTrue (is_number d)
    → T (lt (add binary64 a b) (add binary64 c d)) → (units_of a +ℤ units_of b) <ℤ (units_of c +ℤ units_of d)
sums_tell a b c d fa fb fc fd na nb nc nd h =
    in_order binary64 1074 (add binary64 a b) (add binary64 c d) (units_of a +ℤ units_of b) (units_of c +ℤ units_of d)
    (add_rounded a b fa fb na nb) (add_rounded c d fc fd nc nd) h
