-- The digits of a finite double, from its bit pattern.
use Prim.Native.Nat.{ℕ, suc, ◌+◌, ◌-◌, ◌*◌, ◌/◌, ◌%◌, ◌^◌, ◌≤◌}
use mathlib.Core.Path.{◌≡◌, refl, sym, ap, ◌∙◌, subst}
use native.Mathlib.Omega.{arith}
use native.Mathlib.Nat.{mul-div_cancel}
use mathlib.Core.Bool.{Bool, true, false, not, cond, true≢false}
use lib.IntN.{pos, neg_ℤ}
use lib.Dec.{T, leb, eqb}
use lib.Ieee.{Float, nan, inf, fin, binary64, down, lt, fits, of_bits, to_bits, of_fields, odd, top}
use lib.Ieee.Bits.{of_bits-to_bits}
use lib.Ieee.Exact.{HasValue, odd_sign}
use lib.Ieee.Fits.{down_pos}
use Rattle.std.proofs.Common.{◌<ℤ◌, ◌≤ℤ◌, IsTrue, inl, inr, ◌⊎◌}
use Rattle.std.proofs.lemmas.Int.{ints}
use Rattle.std.proofs.lemmas.Bool.Decides.{eqb_tells}
use Rattle.std.proofs.lemmas.Float.{T_from_true, T_from_false}
use Rattle.double_costs.specs.Units.{is_number, units_of, size_in_units}
use Rattle.double_checker.specs.inside.Sizes.{AreDigits, size_of}
use Rattle.double_checker.proofs.Finite.{zero_is, zero_fits}
use Rattle.double_checker.proofs.FloatOrder.{less_units, no_less_units}

-- a finite double that is a / 2 ^ 1074 is a units
record IsUnits (x : Float) (a : ℕ) : Type 0 where
  pub size : size_of x ≡ a
  pub units : units_of x ≡ pos a ⊎ units_of x ≡ neg_ℤ (pos a)

value_units : (x : Float) (s : Bool) (a : ℕ) → HasValue x s a (2 ^ 1074) → IsUnits x a
value_units nan s a v = absurd v
value_units (inf t) s a v = absurd v
value_units (fin t m e) s a v =
    let size : size_in_units m e ≡ a = ap (λ (x : ℕ). x / down e) v.1 ∙ mul-div_cancel a (down_pos e) in
    record { size = size; units = go t size }
  where
    go : (z : Bool) → size_in_units m e ≡ a → units_of (fin z m e) ≡ pos a ⊎ units_of (fin z m e) ≡ neg_ℤ (pos a)
    go false e = inl (ap pos e)
    go true e = inr (ap (λ (i : ℕ). neg_ℤ (pos i)) e)

-- what a finite double's fields are
fields : (x : Float) (s : Bool) (k t : ℕ) → IsTrue (is_number x) → x ≡ of_fields binary64 s (suc k) t →
    (IsUnits x ((2 ^ 52 + t) * 2 ^ k)) × (suc k ≡ 2047 → ⊥)
unfolding of_fields
fields x s k t n e = elim (eqb_tells (suc k) 2047) [
  | inl g ↦ absurd
      (go (eqb t 0) (e ∙ ap (λ (b : Bool). cond b (cond (eqb t 0) (inf s) nan) (odd 53 s (2 ^ 52 + t) k 1074)) g.0))
  | inr g ↦ (
    subst (λ (y : Float). IsUnits y ((2 ^ 52 + t) * 2 ^ k))
        (sym (e ∙ ap (λ (b : Bool). cond b (cond (eqb t 0) (inf s) nan) (odd 53 s (2 ^ 52 + t) k 1074)) g.0))
        (value_units (odd 53 s (2 ^ 52 + t) k 1074) s ((2 ^ 52 + t) * 2 ^ k) (odd_sign 53 s (2 ^ 52 + t) k 1074)),
    g.1,
  )
]
  where
    go : (b : Bool) → x ≡ cond b (inf s) nan → ⊥
    go true h = true≢false (sym (subst (λ (y : Float). IsTrue (is_number y)) h n))
    go false h = true≢false (sym (subst (λ (y : Float). IsTrue (is_number y)) h n))

small_fields : (x : Float) (s : Bool) (t : ℕ) → x ≡ of_fields binary64 s 0 t → IsUnits x (t * 2 ^ 0)
unfolding of_fields
small_fields x s t e =
    subst (λ (y : Float). IsUnits y (t * 2 ^ 0)) (sym e)
    (value_units (odd 53 s t 0 1074) s (t * 2 ^ 0) (odd_sign 53 s t 0 1074))

-- the fields of a bit pattern
by_fields : (x : Float) → T (fits binary64 x) →
    x ≡ of_fields binary64 (leb (top binary64) (to_bits binary64 x))
    (to_bits binary64 x % 9223372036854775808 / 4503599627370496) (to_bits binary64 x % 4503599627370496)
unfolding of_bits
by_fields x f = sym (of_bits-to_bits binary64 x f)

low_part : (b : ℕ) → b % 9223372036854775808 % 4503599627370496 ≡ b % 4503599627370496
low_part b = omega arith

-- the sign test
with_sign : (x : Float) (a : ℕ) (negative : Bool) → negative ≡ lt x (of_bits binary64 0) → T (fits binary64 x) →
    IsTrue (is_number x) → IsUnits x a →
    units_of x ≡ cond negative (neg_ℤ (pos a)) (pos a)
with_sign x a true e f n u =
    let l : units_of x <ℤ pos 0 = less_units x (fin false 0 (pos 0)) f zero_fits n refl
    (subst (λ (y : Float). T (lt x y)) zero_is (T_from_true (lt x (of_bits binary64 0)) (sym e))) in
    elim u.units [ inl p ↦ absurd (omega (arith, ints)) | inr p ↦ p ]
with_sign x a false e f n u =
    let l : pos 0 ≤ℤ units_of x = no_less_units x (fin false 0 (pos 0)) f zero_fits n refl
    (subst (λ (y : Float). T (not (lt x y))) zero_is (T_from_false (lt x (of_bits binary64 0)) (sym e))) in
    elim u.units [ inl p ↦ p | inr p ↦ omega (arith, ints) ]

pub digits_small : (x : Float) → T (fits binary64 x) → IsTrue (is_number x) →
    to_bits binary64 x % 9223372036854775808 / 4503599627370496 ≡ 0 →
    AreDigits x
    (record {
      digits = to_bits binary64 x % 9223372036854775808 % 4503599627370496;
      shift = 0;
      negative = lt x
          (of_bits binary64 0);
    })
digits_small x f n z =
    let t : ℕ = to_bits binary64 x % 9223372036854775808 % 4503599627370496 in
    let b = by_fields x f
    ∙ ap (λ (k : ℕ). of_fields binary64 (leb (top binary64) (to_bits binary64 x)) k
    (to_bits binary64 x % 4503599627370496)) z
    ∙ ap (λ (k : ℕ). of_fields binary64 (leb (top binary64) (to_bits binary64 x)) 0 k)
    (sym (low_part (to_bits binary64 x))) in
    let u = small_fields x (leb (top binary64) (to_bits binary64 x)) t b in
    record {
      size = u.size;
      units = with_sign x (t * 2 ^ 0) (lt x (of_bits binary64 0)) refl f n u;
      few = omega arith;
      near = omega arith;
      full = λ h. absurd (omega (arith, h));
    }

top_shift : (k b : ℕ) → k + 1 ≡ b % 9223372036854775808 / 4503599627370496 → (suc k ≡ 2047 → ⊥) → k ≤ 2045
top_shift k b e h = omega arith

pub digits_large : (x : Float) → T (fits binary64 x) → IsTrue (is_number x) →
    (to_bits binary64 x % 9223372036854775808 / 4503599627370496 ≡ 0 → ⊥) →
    AreDigits x (record {
      digits = to_bits binary64 x % 9223372036854775808 % 4503599627370496 + 4503599627370496;
      shift = to_bits binary64 x % 9223372036854775808 / 4503599627370496 - 1;
      negative = lt x (of_bits binary64 0);
    })
digits_large x f n z =
    let b : ℕ = to_bits binary64 x in
    let t : ℕ = b % 9223372036854775808 % 4503599627370496 in
    let k : ℕ = b % 9223372036854775808 / 4503599627370496 - 1 in
    let e : b % 9223372036854775808 / 4503599627370496 ≡ suc k = omega arith in
    let g = by_fields x f ∙ ap (λ (i : ℕ). of_fields binary64 (leb (top binary64) b) i (b % 4503599627370496)) e
    ∙ ap (λ (i : ℕ). of_fields binary64 (leb (top binary64) b) (suc k) i) (sym (low_part b)) in
    let u = fields x (leb (top binary64) b) k t n g in
    let same : (2 ^ 52 + t) * 2 ^ k ≡ (t + 4503599627370496) * 2 ^ k = ap (λ (i : ℕ). i * 2 ^ k) (omega arith) in
    let v : IsUnits x ((t + 4503599627370496) * 2 ^ k) = subst (IsUnits x) same u.0 in
    record {
      size = v.size;
      units = with_sign x ((t + 4503599627370496) * 2 ^ k) (lt x (of_bits binary64 0)) refl f n v;
      few = omega arith;
      near = top_shift k b (omega arith) u.1;
      full = λ h. omega arith;
    }
