-- Numbers as odd ones times powers of two.
use Rattle.std.proofs.Common.{◌≡◌, ℕ, pos, neg_ℤ, zero, suc, ◌+◌, ◌-◌, ◌*◌, ◌/◌, ◌%◌, ◌^◌, ◌<◌, ◌≤◌}
use Rattle.std.proofs.Common.{Bool, true, false, cond, refl, arith, ap, sym, ◌∙◌, inl, inr}
use Rattle.std.specs.Prelude.{unsigned_abs}
use Rattle.std.proofs.lemmas.Bool.{cases_lt}
use native.Mathlib.Nat.{pow-suc, mul_assoc, mul_comm, mul-le-mul_right, mul-one}
use lib.Pow.{pow-add, pow_mono, shl-shr}
use lib.Count.{count_trailing_zeros, under}

-- n is an odd number times 2 ^ t
abbrev pub IsOddTimes : ℕ → ℕ → Type 0
IsOddTimes n t = (q : ℕ) × (n ≡ (2 * q + 1) * 2 ^ t)

twice_odd : (n q t : ℕ) → n ≡ 2 * ((2 * q + 1) * 2 ^ t) → n ≡ (2 * q + 1) * 2 ^ suc t
twice_odd n q t e =
    let f : (2 * q + 1) * 2 ^ suc t ≡ (2 * q + 1) * 2 ^ t * 2 = ap (λ (i : ℕ). (2 * q + 1) * i) (pow-suc 2 t)
    ∙ sym (mul_assoc (2 * q + 1) (2 ^ t) 2) in
    e ∙ mul_comm 2 ((2 * q + 1) * 2 ^ t) ∙ sym f

one_more : (n t d : ℕ) → n % 2 ≡ d → 0 < n → (0 < n / 2 → IsOddTimes (n / 2) t) → IsOddTimes n (under d t)
one_more n t (suc d) odd some half =
    let e : n ≡ 2 * (n / 2) + 1 = omega arith in
    (n / 2, e ∙ sym (mul-one (2 * (n / 2) + 1)))
one_more n t zero even some half =
    let h = half (omega arith) in
    let e : n ≡ 2 * (n / 2) = omega arith in
    (h.0, twice_odd n h.0 t (e ∙ ap (λ (i : ℕ). 2 * i) h.1))

-- a number of at most k binary digits
pub odd_times : (k n : ℕ) → 0 < n → n < 2 ^ k → IsOddTimes n (count_trailing_zeros k n)
unfolding count_trailing_zeros
odd_times zero n some fits = absurd (omega arith)
odd_times (suc k) n some fits = one_more n (count_trailing_zeros k (n / 2)) (n % 2) refl some
    (λ rest. odd_times k (n / 2) rest (omega (arith, pow-suc 2 k)))

pub odd_quotient : (n t : ℕ) → IsOddTimes n t → (n / 2 ^ t * 2 ^ t ≡ n) × (n / 2 ^ t % 2 ≡ 1)
odd_quotient n t (q, e) =
    let d : n / 2 ^ t ≡ 2 * q + 1 = ap (λ (i : ℕ). i / 2 ^ t) e ∙ shl-shr (2 * q + 1) t in
    (ap (λ (i : ℕ). i * 2 ^ t) d ∙ sym e, ap (λ (i : ℕ). i % 2) d ∙ odd q)
  where
    odd : (i : ℕ) → (2 * i + 1) % 2 ≡ 1
    odd i = omega arith

pub few_zeros : (n t : ℕ) → IsOddTimes n t → n < 2 ^ 53 → t ≤ 53
few_zeros n t (q, e) few = elim (cases_lt 53 t) [
  | inl more ↦
      let a : 2 ^ 53 ≤ 2 ^ t = pow_mono {i = 53} {j = t} (omega arith) in
      let b : 1 * 2 ^ t ≤ (2 * q + 1) * 2 ^ t = mul-le-mul_right (2 ^ t) (omega arith) in
      let c : 1 * 2 ^ t ≡ 2 ^ t = omega arith in
      absurd (omega arith)
  | inr most ↦ omega arith
]

no_half : (q x : ℕ) → 2 * q + 1 ≡ 2 * x → ⊥
no_half q x e = omega arith

halves : (x y : ℕ) → 2 * x ≡ 2 * y → x ≡ y
halves x y e = omega arith

twice_power : (k e : ℕ) → k * 2 ^ suc e ≡ 2 * (k * 2 ^ e)
twice_power k e = ap (λ (i : ℕ). k * i) (pow-suc 2 e) ∙ sym (mul_assoc k (2 ^ e) 2) ∙ mul_comm (k * 2 ^ e) 2

-- an odd number times 2 ^ a is a multiple of no greater power of two
pub no_greater : (k e a q : ℕ) → (2 * q + 1) * 2 ^ a ≡ k * 2 ^ e → e ≤ a
no_greater k zero a q h = omega arith
no_greater k (suc e) zero q h = absurd (no_half q (k * 2 ^ e) (sym (mul-one (2 * q + 1)) ∙ h ∙ twice_power k e))
no_greater k (suc e) (suc a) q h =
    let i = no_greater k e a q (halves ((2 * q + 1) * 2 ^ a) (k * 2 ^ e)
    (sym (twice_power (2 * q + 1) a) ∙ h ∙ twice_power k e)) in
    omega arith

-- the size of a number with a sign
pub size_of_signed : (b : Bool) (n : ℕ) → unsigned_abs (cond b (neg_ℤ (pos n)) (pos n)) ≡ n
size_of_signed true zero = refl
size_of_signed true (suc n) = refl
size_of_signed false n = refl

-- a power of two in two factors
pub split_power : (s a d : ℕ) → d ≤ a → s * 2 ^ a ≡ s * 2 ^ (a - d) * 2 ^ d
split_power s a d h =
    ap (λ (i : ℕ). s * i) (ap (λ (i : ℕ). 2 ^ i) (back a d h) ∙ pow-add 2 (a - d) d)
    ∙ sym (mul_assoc s (2 ^ (a - d)) (2 ^ d))
  where
    back : (i j : ℕ) → j ≤ i → i ≡ i - j + j
    back i j l = omega arith

-- a quotient by a power of two, with the zeros moved to the power
pub moved_power : (n s t : ℕ) → n / 2 ^ t * 2 ^ t ≡ n → n / 2 ^ t * 2 ^ (s + t) ≡ n * 2 ^ s
moved_power n s t e =
    ap (λ (i : ℕ). n / 2 ^ t * i) (pow-add 2 s t ∙ mul_comm (2 ^ s) (2 ^ t))
    ∙ sym (mul_assoc (n / 2 ^ t) (2 ^ t) (2 ^ s)) ∙ ap (λ (i : ℕ). i * 2 ^ s) e
