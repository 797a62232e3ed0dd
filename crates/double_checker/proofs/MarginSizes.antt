-- Sizes of doubles, and the margins of costs.
use Rattle.std.proofs.Common.{◌≡◌, ℕ, ℤ, pos, negsuc, neg_ℤ, ◌≤ℤ◌, ◌≤◌, ◌+◌, ◌*◌, ◌^◌}
use Rattle.std.proofs.Common.{IsTrue}
use Rattle.std.proofs.Common.{arith, refl, sym, ap, ◌∙◌, subst}
use Rattle.std.specs.Prelude.{unsigned_abs}
use Rattle.std.proofs.lemmas.Int.{ints}
use Rattle.std.proofs.Math.Nat.{mul-le-mul_right, mul-le-mul_left, mul_assoc, mul_comm}
use lib.Pow.{pow-add, pow_mono}
use lib.Ieee.{Float, nan, inf, fin}
use Rattle.double_costs.specs.Units.{is_number, units_of}
use Rattle.double_checker.specs.declared.digits.Digits.{Digits}
use Rattle.double_checker.specs.inside.Sizes.{AreDigits, size_by, size_of}
use Rattle.double_checker.proofs.PlanRows.{size_abs}

between : (z w : ℤ) → z ≤ℤ w → neg_ℤ w ≤ℤ z → unsigned_abs z ≤ unsigned_abs w
between (pos n) (pos k) h g = omega (arith, ints)
between (pos n) (negsuc k) h g = absurd (omega (arith, ints))
between (negsuc n) (pos k) h g = omega (arith, ints)
between (negsuc n) (negsuc k) h g = absurd (omega (arith, ints))

-- a double between another and its negative has at most its size
pub size_between : (x y : Float) → units_of x ≤ℤ units_of y → neg_ℤ (units_of y) ≤ℤ units_of x → size_of x ≤ size_of y
size_between x y h g = let a = size_abs x in let b = size_abs y in let m = between (units_of x) (units_of y) h g in
    omega arith

-- the same of what is finite
pub size_within : (x y : Float) → (IsTrue (is_number x) → units_of x ≤ℤ units_of y) →
    (IsTrue (is_number x) → neg_ℤ (units_of y) ≤ℤ units_of x) → size_of x ≤ size_of y
size_within nan y h g = omega arith
size_within (inf s) y h g = omega arith
size_within (fin s m e) y h g = size_between (fin s m e) y (h refl) (g refl)

-- fewer digits, shifted by at most 52 places more
digits_in_parts : (a s b t : ℕ) → a ≤ b → s ≤ t + 52 → a * 2 ^ s ≤ 2 ^ 52 * (b * 2 ^ t)
digits_in_parts a s b t h g =
    let p : a * 2 ^ s ≤ b * 2 ^ s = mul-le-mul_right (2 ^ s) h in
    let q : b * 2 ^ s ≤ b * 2 ^ (t + 52) = mul-le-mul_left b (pow_mono {j = t + 52} g) in
    let r : b * 2 ^ (t + 52) ≡ b * 2 ^ t * 2 ^ 52 = ap (λ (i : ℕ). b * i) (pow-add 2 t 52)
    ∙ sym (mul_assoc b (2 ^ t) (2 ^ 52)) in
    let e : b * 2 ^ t * 2 ^ 52 ≡ 2 ^ 52 * (b * 2 ^ t) = mul_comm (b * 2 ^ t) (2 ^ 52) in
    omega arith

pub size_in_parts : (x y : Float) (d e : Digits) → AreDigits x d → AreDigits y e → d.digits ≤ e.digits →
    d.shift ≤ e.shift + 52 →
    size_of x ≤ 2 ^ 52 * size_of y
size_in_parts x y d e dx ey h g =
    let a = dx.size in
    let b = ey.size in
    let m = digits_in_parts d.digits d.shift e.digits e.shift h g in
    subst (λ (i : ℕ). i ≤ 2 ^ 52 * size_of y) (sym a) (subst (λ (i : ℕ). size_by d ≤ 2 ^ 52 * i) (sym b) m)
