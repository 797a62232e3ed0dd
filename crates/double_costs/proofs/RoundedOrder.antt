-- The order of rounded fractions with signs.
use Prim.Native.Nat.{ℕ, zero, suc, ◌+◌, ◌*◌, ◌^◌, ◌<◌}
use mathlib.Core.Path.{◌≡◌, refl, sym, ap, ◌∙◌, subst}
use native.Mathlib.Omega.{arith}
use native.Mathlib.Nat.{mul-pos, add_comm, zero-mul}
use mathlib.Core.Bool.{Bool, true, false, cond, true≢false}
use lib.Dec.{T, ltb, ltb→lt}
use lib.Ieee.{Float, nan, inf, fin, Format, prec, emax, low, up, down, odd, units, round, neg, lt}
use lib.Ieee.Fits.{round_is}
use lib.Ieee.Exact.{HasValue, round_exact}
use lib.Pow.{pow_pos}

neg-odd : (d q k l : ℕ) → neg (odd d false q k l) ≡ odd d true q k l
unfolding neg odd
neg-odd d zero k l = refl
neg-odd d (suc q) k l = refl

neg-units : (f : Format) (q k : ℕ) → neg (units f false q k) ≡ units f true q k
unfolding units neg
neg-units f q k = go (ltb (q * 2 ^ k) (2 ^ (low f + suc (emax f))))
  where
    go : (b : Bool) → neg (cond b (odd (suc (prec f)) false q k (low f)) (inf false)) ≡ cond b (odd (suc (prec f)) true q k (low f)) (inf true)
    go true = neg-odd (suc (prec f)) q k (low f)
    go false = refl

pub neg-round : (f : Format) (n c : ℕ) → neg (round f false n c) ≡ round f true n c
neg-round f n c = ap neg (round_is f false n c) ∙ neg-units f _ _ ∙ sym (round_is f true n c)

-- the order turned round
pub turned : (x y : Float) → T (lt (neg x) (neg y)) → T (lt y x)
unfolding lt neg
turned nan y h = absurd h
turned (inf s) nan h = absurd h
turned (inf true) (inf true) h = absurd h
turned (inf true) (inf false) h = absurd h
turned (inf false) (inf true) h = tt
turned (inf false) (inf false) h = absurd h
turned (inf true) (fin t n d) h = absurd h
turned (inf false) (fin t n d) h = tt
turned (fin s m e) nan h = absurd h
turned (fin s m e) (inf true) h = tt
turned (fin s m e) (inf false) h = absurd h
turned (fin true m e) (fin true n d) h = h
turned (fin true m e) (fin false n d) h = absurd h
turned (fin false m e) (fin true n d) h = subst (λ (z : ℕ). T (ltb 0 z)) (add_comm (m * up e * down d) (n * up d * down e)) h
turned (fin false m e) (fin false n d) h = h

-- the sign of what isn't NaN
abbrev HasSign : Bool → Float → Type 0
HasSign s nan = ⊥
HasSign s (inf t) = t ≡ s
HasSign s (fin t m e) = t ≡ s

odd_has_sign : (d : ℕ) (s : Bool) (q k l : ℕ) → HasSign s (odd d s q k l)
unfolding odd
odd_has_sign d s zero k l = refl
odd_has_sign d s (suc q) k l = refl

units_have_sign : (f : Format) (s : Bool) (q k : ℕ) → HasSign s (units f s q k)
unfolding units
units_have_sign f s q k = go (ltb (q * 2 ^ k) (2 ^ (low f + suc (emax f))))
  where
    go : (b : Bool) → HasSign s (cond b (odd (suc (prec f)) s q k (low f)) (inf s))
    go true = odd_has_sign (suc (prec f)) s q k (low f)
    go false = refl

pub round_has_sign : (f : Format) (s : Bool) (n c : ℕ) → HasSign s (round f s n c)
round_has_sign f s n c = subst (HasSign s) (sym (round_is f s n c)) (units_have_sign f s _ _)

-- nothing without a minus sign is below what has one
pub not_below : (x y : Float) → HasSign false x → HasSign true y → T (lt x y) → ⊥
unfolding lt
not_below nan y p q h = p
not_below (inf true) y p q h = absurd (true≢false p)
not_below (inf false) nan p q h = q
not_below (inf false) (inf true) p q h = h
not_below (inf false) (inf false) p q h = h
not_below (inf false) (fin t n d) p q h = h
not_below (fin true m e) y p q h = absurd (true≢false p)
not_below (fin false m e) nan p q h = q
not_below (fin false m e) (inf true) p q h = h
not_below (fin false m e) (inf false) p q h = absurd (true≢false (sym q))
not_below (fin false m e) (fin true n d) p q h = h
not_below (fin false m e) (fin false n d) p q h = absurd (true≢false (sym q))

pub rounded_zero : (f : Format) (s : Bool) (c : ℕ) → 0 < c → HasValue (round f s 0 c) s 0 c
rounded_zero f s c h = round_exact f s 0 c 0 0 h (pow_pos (prec f))
    (subst (λ (x : ℕ). x < 2 ^ (low f + suc (emax f))) (sym (zero-mul (2 ^ 0))) (pow_pos (low f + suc (emax f))))
    (zero-mul (2 ^ low f) ∙ sym (zero-mul c) ∙ ap (λ (x : ℕ). x * c) (sym (zero-mul (2 ^ 0))))

-- a zero isn't below a zero
suc_pos : (m : ℕ) → 0 < suc m
suc_pos m = omega arith

zero_value : (m e c r : ℕ) → 0 < c → m * c ≡ 0 * e → m * r ≡ 0
zero_value zero e c r h p = zero-mul r
zero_value (suc m) e c r h p = absurd (omega (arith, mul-pos (suc_pos m) h, zero-mul e))

pub zeros_not_below : (x y : Float) (c d : ℕ) → 0 < c → 0 < d → HasValue x true 0 c → HasValue y false 0 d → T (lt x y) → ⊥
unfolding lt
zeros_not_below nan y c d hc hd p q h = p
zeros_not_below (inf s) y c d hc hd p q h = p
zeros_not_below (fin false m e) y c d hc hd p q h = absurd (true≢false (sym p.0))
zeros_not_below (fin true m e) nan c d hc hd p q h = q
zeros_not_below (fin true m e) (inf t) c d hc hd p q h = q
zeros_not_below (fin true m e) (fin true n g) c d hc hd p q h = absurd (true≢false q.0)
zeros_not_below (fin true m e) (fin false n g) c d hc hd p q h =
    let a : m * up e * down g ≡ 0 = zero_value (m * up e) (down e) c (down g) hc p.1 in
    let b : n * up g * down e ≡ 0 = zero_value (n * up g) (down g) d (down e) hd q.1 in
    let l : 0 < m * up e * down g + n * up g * down e = ltb→lt 0 (m * up e * down g + n * up g * down e) h in
    omega arith
