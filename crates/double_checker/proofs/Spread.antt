-- The least and the greatest shift of four doubles.
use Rattle.std.proofs.Common.{◌≡◌, ℕ, ◌<◌, ◌≤◌, ◌+◌, ◌*◌, ◌^◌, min, max, List, nat_eq}
use Rattle.std.proofs.Common.{inl, inr, arith, ap, sym, ◌∙◌, subst}
use Rattle.std.specs.List.{Contains}
use Rattle.std.proofs.lemmas.Bool.{cases_lt, cond-true, cond-false}
use Rattle.std.proofs.lemmas.Bool.Decides.{eqb_tells}
use native.Mathlib.Nat.{mul-pos, mul-lt-mul_of_pos_right, mul-le-mul_right, lt_of_lt_of_le, le_trans, le_of_eq}
use lib.Pow.{pow-add, pow_pos, pow_mono}
use lib.Ieee.{Float}
use Rattle.double_checker.specs.declared.digits.Digits.{Digits}
use Rattle.double_checker.specs.Far.{HasFar}
use Rattle.double_checker.specs.inside.Sizes.{AreDigits, low_shift, size_of}

pub of_min : (P : ℕ → Type 0) (a b : ℕ) → P a → P b → P (min a b)
of_min P a b p q = elim (cases_lt a b) [
  | inl lt ↦ let e : a ≡ min a b = omega arith in subst P e p
  | inr ge ↦ let e : b ≡ min a b = omega arith in subst P e q
]

pub of_max : (P : ℕ → Type 0) (a b : ℕ) → P a → P b → P (max a b)
of_max P a b p q = elim (cases_lt a b) [
  | inl lt ↦ let e : b ≡ max a b = omega arith in subst P e q
  | inr ge ↦ let e : a ≡ max a b = omega arith in subst P e p
]

-- one of the sizes isn't 0, and has no digit at z + 53 places or beyond; or z is beyond all shifts
pub record IsLow (sizes : List ℕ) (z : ℕ) : Type 0 where
  pub size : ℕ
  pub size_in : Contains sizes size
  pub some : z ≤ 2045 → 0 < size
  pub small : z ≤ 2045 → size < 2 ^ 53 * 2 ^ z

-- one of the sizes has a digit at z + 52 places, if z isn't 0
pub record IsHigh (sizes : List ℕ) (z : ℕ) : Type 0 where
  pub size : ℕ
  pub size_in : Contains sizes size
  pub near : z ≤ 2045
  pub large : 0 < z → 2 ^ 52 * 2 ^ z ≤ size

pub low_is : (sizes : List ℕ) (x : Float) (d : Digits) → AreDigits x d → Contains sizes (size_of x) →
    IsLow sizes (low_shift d)
low_is sizes x d a c = elim (eqb_tells d.digits 0) [
  | inl e ↦
      let z : low_shift d ≡ 2046 = cond-true (nat_eq d.digits 0) 2046 d.shift e.0 in
      record { size = size_of x; size_in = c; some = λ h. absurd (omega arith); small = λ h. absurd (omega arith) }
  | inr e ↦
      let z : low_shift d ≡ d.shift = cond-false (nat_eq d.digits 0) 2046 d.shift e.0 in
      let some : 0 < d.digits = (let g = e.1 in omega arith) in
      record {
        size = size_of x;
        size_in = c;
        some = λ h. subst (λ (i : ℕ). 0 < i) (sym a.size) (mul-pos some (pow_pos d.shift));
        small = λ h. subst (λ (i : ℕ). size_of x < 2 ^ 53 * 2 ^ i) (sym z)
            (subst (λ (i : ℕ). i < 2 ^ 53 * 2 ^ d.shift) (sym a.size) (mul-lt-mul_of_pos_right a.few
            (pow_pos d.shift)));
      }
]

pub high_is : (sizes : List ℕ) (x : Float) (d : Digits) → AreDigits x d → Contains sizes (size_of x) →
    IsHigh sizes d.shift
high_is sizes x d a c = record {
  size = size_of x;
  size_in = c;
  near = a.near;
  large = λ h. subst (λ (i : ℕ). 2 ^ 52 * 2 ^ d.shift ≤ i) (sym a.size) (mul-le-mul_right (2 ^ d.shift) (a.full h));
}

-- two powers in the order of their exponents
spread : (low high s : ℕ) → low + 71 ≤ high → s < 2 ^ 53 * 2 ^ low → s * 2 ^ 70 < 2 ^ 52 * 2 ^ high
spread low high s h lt =
    let a : s * 2 ^ 70 < 2 ^ 53 * 2 ^ low * 2 ^ 70 = mul-lt-mul_of_pos_right lt (pow_pos 70) in
    let e : 2 ^ 53 * 2 ^ low * 2 ^ 70 ≡ 2 ^ (53 + low + 70) = ap (λ (i : ℕ). i * 2 ^ 70) (sym (pow-add 2 53 low))
    ∙ sym (pow-add 2 (53 + low) 70) in
    let f : 2 ^ 52 * 2 ^ high ≡ 2 ^ (52 + high) = sym (pow-add 2 52 high) in
    let g : 2 ^ (53 + low + 70) ≤ 2 ^ (52 + high) = pow_mono (omega arith) in
    lt_of_lt_of_le a (le_trans (le_of_eq e) (le_trans g (le_of_eq (sym f))))

pub far_apart : (sizes : List ℕ) (low high : ℕ) → IsLow sizes low → IsHigh sizes high → 70 + low < high → HasFar sizes
far_apart sizes low high l g h =
    let m : low ≤ 2045 = (let n = g.near in omega arith) in
    record {
      large = g.size;
      small = l.size;
      large_in = g.size_in;
      small_in = l.size_in;
      some = l.some m;
      far = lt_of_lt_of_le (spread low high l.size (omega arith) (l.small m)) (g.large (omega arith));
    }
