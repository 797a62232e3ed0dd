-- Units of doubles.
use Rattle.std.proofs.Common.{◌≡◌, ℕ, ℤ, pos, neg_ℤ, ◌-ℤ◌, ◌*ℤ◌, Bool, true, false, cond, suc, ◌+◌, ◌-◌, ◌*◌, ◌/◌, ◌%◌, ◌^◌, ◌<◌, ◌≤◌, ◌⊎◌, List}
use Rattle.std.proofs.Common.{length, get_or, IsTrue, min, refl, arith, ap, sym, subst, ◌∙◌, inl, inr}
use Rattle.std.specs.Prelude.{unsigned_abs}
use Rattle.std.proofs.lemmas.List.{get_or_default}
use Rattle.std.proofs.lemmas.Bool.{cases_lt}
use Rattle.std.proofs.lemmas.Int.{ints}
use Rattle.std.proofs.Math.IntN.{*ℤ-zero}
use native.Mathlib.Nat.{mul-le-mul_left, mul-le-mul_right, zero-mul}
use lib.Pow.{pow_mono, pow_pos, pow-add}
use lib.Ieee.{Float, nan}
use Rattle.double_costs.specs.Units.{is_number, units_of}
use Rattle.c_calls.specs.lists.Faults.{IsFirstWithout}
use Rattle.c_wide.specs.declared.exact.parts.Parts.{Parts}
use Rattle.c_wide.specs.exact.Parts.{ArePartsOf, size_by}
use Rattle.c_wide.specs.exact.Units.{AreZeros, IsFirstAbove, IsGreatestUnit, IsInUnits, IsMultiple, IsUnit, IsWithin}
use Rattle.double_checker.proofs.Scales.{shifted_back, times_negative}
use Rattle.c_wide.proofs.OddParts.{no_greater, size_of_signed, split_power}

pub size_of_parts : (x : Float) (p : Parts) → ArePartsOf x p → unsigned_abs (units_of x) ≡ p.significand * 2 ^ p.exponent
size_of_parts x p are = ap unsigned_abs are.units ∙ size_of_signed p.negative (size_by p)

pub parts_from : (x : Float) (p : Parts) (n : ℕ) (b : Bool) → units_of x ≡ cond b (neg_ℤ (pos n)) (pos n) → size_by p ≡ n →
    p.negative ≡ b → p.significand < 2 ^ 53 → (p.significand ≡ 0) ⊎ (p.significand % 2 ≡ 1) → p.exponent ≤ 2098 → ArePartsOf x p
parts_from x p n b units size sign few odd near = record {
  units = units ∙ ap (λ (i : ℕ). cond b (neg_ℤ (pos i)) (pos i)) (sym size)
      ∙ ap (λ (c : Bool). cond c (neg_ℤ (pos (size_by p))) (pos (size_by p))) (sym sign);
  few = few;
  odd = odd;
  near = near;
}

pub parts_of_zero : (x : Float) (p : Parts) → ArePartsOf x p → p.significand ≡ 0 → unsigned_abs (units_of x) ≡ 0
parts_of_zero x p are z = size_of_parts x p are ∙ ap (λ (i : ℕ). i * 2 ^ p.exponent) z ∙ zero-mul (2 ^ p.exponent)

no_size : (z : ℤ) → unsigned_abs z ≡ 0 → z ≡ pos 0
no_size (ℤ.pos n) e = ap pos e
no_size (ℤ.negsuc n) e = absurd (omega (arith, e))

pub units_of_zero : (x : Float) (p : Parts) → ArePartsOf x p → p.significand ≡ 0 → units_of x ≡ pos 0
units_of_zero x p are z = no_size (units_of x) (parts_of_zero x p are z)

pub own_below : (d : ℕ) (x : Float) (p : Parts) → ArePartsOf x p → d ≤ p.exponent → IsMultiple d x
own_below d x p are h = (p.significand * 2 ^ (p.exponent - d), size_of_parts x p are ∙ split_power p.significand p.exponent d h)

pub own_above : (d : ℕ) (x : Float) (p : Parts) → ArePartsOf x p → (p.significand ≡ 0 → ⊥) → IsMultiple d x → d ≤ p.exponent
own_above d x p are some (k, e) = elim are.odd [
  | inl z ↦ absurd (some z)
  | inr o ↦
      let s : p.significand ≡ 2 * (p.significand / 2) + 1 = omega (arith, o) in
      no_greater k d p.exponent (p.significand / 2)
      (ap (λ (i : ℕ). i * 2 ^ p.exponent) (sym s) ∙ sym (size_of_parts x p are) ∙ e)
]

-- the greatest unit of the first k costs, or 4000
pub record IsUnitOfFirst (costs : List Float) (k unit : ℕ) : Type 0 where
  pub below : (d i : ℕ) → d ≤ unit → i < k → IsMultiple d (get_or costs i nan)
  pub above : ((unit ≡ 4000) × ((i : ℕ) → i < k → units_of (get_or costs i nan) ≡ pos 0))
      ⊎ ((unit < 4000) × ((d : ℕ) → ((i : ℕ) → i < k → IsMultiple d (get_or costs i nan)) → d ≤ unit))
  pub most : unit ≤ 4000

pub no_unit_yet : (costs : List Float) → IsUnitOfFirst costs 0 4000
no_unit_yet costs = record {
  below = λ d i h lt. absurd (omega arith);
  above = inl (refl, λ i lt. absurd (omega arith));
  most = omega arith;
}

last_or_before : (P : ℕ → Type 0) (k i : ℕ) → i < k + 1 → (i < k → P i) → P k → P i
last_or_before P k i lt before last = elim (cases_lt i k) [
  | inl l ↦ before l
  | inr g ↦ let e : k ≡ i = omega arith in subst P e last
]

least_of : (a b : ℕ) → ((min a b ≡ a) × (a ≤ b)) ⊎ ((min a b ≡ b) × (b ≤ a))
least_of a b = elim (cases_lt a b) [
  | inl l ↦ inl (omega arith, omega arith)
  | inr g ↦ inr (omega arith, omega arith)
]

-- one more cost with its own unit
pub unit_of_more : (costs : List Float) (k unit own : ℕ) → IsUnitOfFirst costs k unit →
    ((d : ℕ) → d ≤ own → IsMultiple d (get_or costs k nan)) →
    (((own ≡ 4000) × (units_of (get_or costs k nan) ≡ pos 0)) ⊎ ((own < 4000) × ((d : ℕ) → IsMultiple d (get_or costs k nan) → d ≤ own))) →
    own ≤ 4000 → IsUnitOfFirst costs (k + 1) (min unit own)
unit_of_more costs k unit own first below above most = record {
  below = λ d i h lt. last_or_before (λ (j : ℕ). IsMultiple d (get_or costs j nan)) k i lt
      (λ l. first.below d i (omega arith) l) (below d (omega arith));
  above = elim first.above [
    | inl old ↦ elim above [
      | inl new ↦ inl (
        (let a = old.0 in let b = new.0 in omega arith),
        λ i lt. last_or_before (λ (j : ℕ). units_of (get_or costs j nan) ≡ pos 0) k i lt (old.1 i) new.1,
      )
      | inr new ↦ inr (
        (let b = new.0 in omega arith),
        λ d all. let a = old.0 in let n = new.1 d (all k (omega arith)) in omega arith,
      )
    ]
    | inr old ↦ inr (
      (let b = old.0 in omega arith),
      λ d all.
          let o = old.1 d (λ i lt. all i (omega arith)) in
          let m = first.most in
          elim above [
            | inl new ↦ let a = new.0 in omega arith
            | inr new ↦ let n = new.1 d (all k (omega arith)) in omega arith
          ],
    )
  ];
  most = let m = first.most in omega arith;
}

-- all costs
pub unit_of_all : (costs : List Float) (k unit : ℕ) → length costs ≤ k → IsUnitOfFirst costs k unit → (d : ℕ) → d ≤ unit → IsUnit d costs
unit_of_all costs k unit end first d h = λ i x lt.
    subst (IsMultiple d) (get_or_default costs i nan x lt) (first.below d i h (omega arith))

pub greatest_of_all : (costs : List Float) (k unit : ℕ) → k ≤ length costs → IsUnitOfFirst costs k unit → length costs ≤ k →
    ((unit ≡ 4000) × AreZeros costs) ⊎ ((unit < 4000) × ((d : ℕ) → IsUnit d costs → d ≤ unit))
greatest_of_all costs k unit end first all = elim first.above [
  | inl none ↦ inl (none.0, λ i x lt. subst (λ (y : Float). units_of y ≡ pos 0) (get_or_default costs i nan x lt) (none.1 i (omega arith)))
  | inr some ↦ inr (some.0, λ d u. some.1 d (λ i lt. u i nan (omega arith)))
]

-- the multiple of a cost that isn't 0
power_back : (s a e : ℕ) → e ≤ a → s * 2 ^ (a - e) * 2 ^ e ≤ 2 ^ 100 * 2 ^ e → s * 2 ^ (a - e) ≤ 2 ^ 100
power_back s a e h l = elim (cases_lt (2 ^ 100) (s * 2 ^ (a - e))) [
  | inl g ↦
      let m : suc (2 ^ 100) * 2 ^ e ≤ s * 2 ^ (a - e) * 2 ^ e = mul-le-mul_right (2 ^ e) g in
      let p : 0 < 2 ^ e = pow_pos e in
      let d : suc (2 ^ 100) * 2 ^ e ≡ 2 ^ 100 * 2 ^ e + 2 ^ e = omega arith in
      absurd (omega arith)
  | inr w ↦ w
]

pub within_by_parts : (e : ℕ) (x : Float) (p : Parts) → ArePartsOf x p → e ≤ p.exponent → IsWithin e x →
    p.significand * 2 ^ (p.exponent - e) ≤ 2 ^ 100
within_by_parts e x p are h w = power_back p.significand p.exponent e h
    (subst (λ (i : ℕ). i ≤ 2 ^ 100 * 2 ^ e) (size_of_parts x p are ∙ split_power p.significand p.exponent e h) w)

pub parts_within : (e : ℕ) (x : Float) (p : Parts) → ArePartsOf x p → e ≤ p.exponent →
    p.significand * 2 ^ (p.exponent - e) ≤ 2 ^ 100 → IsWithin e x
parts_within e x p are h w =
    subst (λ (i : ℕ). i ≤ 2 ^ 100 * 2 ^ e) (sym (size_of_parts x p are ∙ split_power p.significand p.exponent e h))
    (mul-le-mul_right (2 ^ e) w)

-- the first cost above 2 ^ 100 of the greatest units
pub first_is_above : (costs : List Float) (e k : ℕ) → IsGreatestUnit e costs → IsFirstWithout (IsWithin e) costs k → IsFirstAbove costs k
first_is_above costs e k great first =
    let x : Float = get_or costs k nan in
    let over : 2 ^ 100 * 2 ^ e < unsigned_abs (units_of x) = elim (cases_lt (2 ^ 100 * 2 ^ e) (unsigned_abs (units_of x))) [
      | inl l ↦ l
      | inr g ↦ absurd (first.lacks nan g)
    ] in record {
      e = e;
      greatest = great;
      below = first.within;
      before = λ i lt. first.before i nan lt;
      above = λ d u. elim great.greatest [
        | inl most ↦
            let p : 2 ^ d ≤ 2 ^ e = pow_mono {i = d} {j = e} (most d u) in
            let m : 2 ^ 100 * 2 ^ d ≤ 2 ^ 100 * 2 ^ e = mul-le-mul_left (2 ^ 100) p in
            omega arith
        | inr zeros ↦
            let z : unsigned_abs (units_of x) ≡ 0 = ap unsigned_abs (zeros.1 k nan first.within) in
            absurd (omega arith)
      ];
    }

-- by at most 100 places
pub small_by : (s by : ℕ) → 0 < s → s * 2 ^ by ≤ 2 ^ 100 → by ≤ 100
small_by s by some h = elim (cases_lt 100 by) [
  | inl more ↦
      let a : 2 ^ 101 ≤ 2 ^ by = pow_mono {i = 101} {j = by} more in
      let b : 1 * 2 ^ by ≤ s * 2 ^ by = mul-le-mul_right (2 ^ by) some in
      let c : 1 * 2 ^ by ≡ 2 ^ by = omega arith in
      absurd (omega arith)
  | inr most ↦ most
]

whole_power : (by : ℕ) → by ≤ 100 → 2 ^ (100 - by) * 2 ^ by ≡ 2 ^ 100
whole_power by h =
    let e : 100 - by + by ≡ 100 = omega arith in
    sym (pow-add 2 (100 - by) by) ∙ ap (λ (i : ℕ). 2 ^ i) e

pub small_when : (s by : ℕ) → by ≤ 100 → s ≤ 2 ^ (100 - by) → s * 2 ^ by ≤ 2 ^ 100
small_when s by h l =
    subst (λ (i : ℕ). s * 2 ^ by ≤ i) (whole_power by h) (mul-le-mul_right (2 ^ by) l)

pub small_only : (s by : ℕ) → by ≤ 100 → s * 2 ^ by ≤ 2 ^ 100 → s ≤ 2 ^ (100 - by)
small_only s by h l = elim (cases_lt (2 ^ (100 - by)) s) [
  | inl g ↦
      let m : suc (2 ^ (100 - by)) * 2 ^ by ≤ s * 2 ^ by = mul-le-mul_right (2 ^ by) g in
      let p : 0 < 2 ^ by = pow_pos by in
      let w = whole_power by h in
      let d : suc (2 ^ (100 - by)) * 2 ^ by ≡ 2 ^ (100 - by) * 2 ^ by + 2 ^ by = omega arith in
      absurd (omega arith)
  | inr w ↦ w
]

-- a cost as a number of units
pub zero_in_units : (e : ℕ) (x : Float) (p : Parts) → IsTrue (is_number x) → ArePartsOf x p → p.significand ≡ 0 → IsInUnits e x (pos 0)
zero_in_units e x p number are z = record {
  finite = number;
  is = *ℤ-zero (pos (2 ^ e)) ∙ sym (units_of_zero x p are z);
}

pub positive_in_units : (e : ℕ) (x : Float) (p : Parts) (z : ℤ) → IsTrue (is_number x) → ArePartsOf x p → e ≤ p.exponent →
    z ≡ pos (p.significand * 2 ^ (p.exponent - e)) → p.negative ≡ false → IsInUnits e x z
positive_in_units e x p z number are h is sign = record {
  finite = number;
  is = ap (λ (i : ℤ). pos (2 ^ e) *ℤ i) is ∙ ap pos (shifted_back p.significand p.exponent e h)
      ∙ ap (λ (b : Bool). cond b (neg_ℤ (pos (size_by p))) (pos (size_by p))) (sym sign) ∙ sym are.units;
}

pub negative_in_units : (e : ℕ) (x : Float) (p : Parts) (z : ℤ) → IsTrue (is_number x) → ArePartsOf x p → e ≤ p.exponent →
    z ≡ pos (p.significand * 2 ^ (p.exponent - e)) → p.negative ≡ true → IsInUnits e x (pos 0 -ℤ z)
negative_in_units e x p z number are h is sign =
    let t : pos 0 -ℤ z ≡ neg_ℤ (pos (p.significand * 2 ^ (p.exponent - e))) = omega (arith, ints) in
    record {
      finite = number;
      is = ap (λ (i : ℤ). pos (2 ^ e) *ℤ i) t
          ∙ times_negative (2 ^ e) (p.significand * 2 ^ (p.exponent - e))
          ∙ ap (λ (i : ℕ). neg_ℤ (pos i)) (shifted_back p.significand p.exponent e h)
          ∙ ap (λ (b : Bool). cond b (neg_ℤ (pos (size_by p))) (pos (size_by p))) (sym sign) ∙ sym are.units;
    }

-- the unit 1 where each finite cost is 0
pub one_for_zeros : (costs : List Float) (unit : ℕ) → unit ≡ 4000 → ((d : ℕ) → d ≤ unit → IsUnit d costs) →
    (((unit ≡ 4000) × AreZeros costs) ⊎ ((unit < 4000) × ((d : ℕ) → IsUnit d costs → d ≤ unit))) → IsGreatestUnit 1074 costs
one_for_zeros costs unit is below above = record {
  unit = below 1074 (omega arith);
  greatest = elim above [
    | inl zeros ↦ inr (refl, zeros.1)
    | inr some ↦ absurd (let a = some.0 in omega arith)
  ];
}

pub greatest_of_some : (costs : List Float) (unit : ℕ) → (unit ≡ 4000 → ⊥) → ((d : ℕ) → d ≤ unit → IsUnit d costs) →
    (((unit ≡ 4000) × AreZeros costs) ⊎ ((unit < 4000) × ((d : ℕ) → IsUnit d costs → d ≤ unit))) → IsGreatestUnit unit costs
greatest_of_some costs unit not below above = record {
  unit = below unit (omega arith);
  greatest = elim above [
    | inl zeros ↦ absurd (not zeros.0)
    | inr some ↦ inl some.1
  ];
}
