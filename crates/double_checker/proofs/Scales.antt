-- Whole numbers times a power of two.
use Rattle.std.proofs.Common.{◌≡◌, ℕ, ℤ, pos, neg_ℤ, ◌+ℤ◌, ◌-ℤ◌, ◌*ℤ◌, ◌≤ℤ◌, ◌<ℤ◌, ◌<◌, ◌≤◌, ◌+◌, ◌-◌, ◌*◌}
use Rattle.std.proofs.Common.{◌^◌, ◌↔◌, zero, suc, Bool, true, false, cond, arith, refl, ap, sym, ◌∙◌, IsTrue, T}
use Rattle.std.proofs.lemmas.Int.{ints, by_lt_z}
use native.Mathlib.Nat.{mul_assoc, mul_comm, mul-zero, mul-lt-mul_of_pos_right, lt_of_lt_of_le, le_trans, le_of_eq}
use lib.Pow.{pow-add, pow_pos, pow_mono}
use borrow.Author.Differences.{up, down}
use Rattle.assign_core.proofs.Products.{distributes}
use Rattle.double_costs.proofs.Multiples.{in_order}
use Rattle.double_checker.specs.declared.digits.Digits.{Digits}
use Rattle.double_checker.specs.inside.Sizes.{units_by, size_by}

pub times_negative : (n x : ℕ) → pos n *ℤ neg_ℤ (pos x) ≡ neg_ℤ (pos (n * x))
times_negative n zero = ap pos (mul-zero n) ∙ ap (λ (i : ℕ). neg_ℤ (pos i)) (sym (mul-zero n))
times_negative n (suc x) = refl

pub shifted_back : (digits shift low : ℕ) → low ≤ shift → 2 ^ low * (digits * 2 ^ (shift - low)) ≡ digits * 2 ^ shift
shifted_back digits shift low h =
    mul_comm (2 ^ low) (digits * 2 ^ (shift - low)) ∙ mul_assoc digits (2 ^ (shift - low)) (2 ^ low)
    ∙ ap (λ (i : ℕ). digits * i) (sym (pow-add 2 (shift - low) low) ∙ ap (λ (i : ℕ). 2 ^ i) (omega arith))

strictly : (n : ℕ) (a b : ℤ) → b <ℤ a → (pos (suc n) *ℤ a) ≤ℤ (pos (suc n) *ℤ b) → ⊥
strictly n a b lt h =
    let k : ℕ = up a + down b - (up b + down a + 1) in
    let e : a ≡ b +ℤ pos (k + 1) = omega (arith, ints) in
    let m : pos (suc n) *ℤ a ≡ (pos (suc n) *ℤ b) +ℤ (pos (suc n) *ℤ pos (k + 1)) = ap (λ z. pos (suc n) *ℤ z) e
    ∙ distributes (pos (suc n)) b (pos (k + 1)) in
    let q : pos (suc n) *ℤ pos (k + 1) ≡ pos (suc n * (k + 1)) = refl in
    let t : 0 < suc n * (k + 1) = omega arith in
    omega (arith, ints)

back : (n : ℕ) (a b : ℤ) → 0 < n → (pos n *ℤ a) ≤ℤ (pos n *ℤ b) → a ≤ℤ b
back zero a b p h = absurd (omega (arith, p))
back (suc n) a b p h = by_lt_z {P = a ≤ℤ b} b a (λ lt. absurd (strictly n a b lt h)) (λ le. le)

-- sums are in order where their multiples are
pub sums_scaled : (n : ℕ) (a b c d x y z w : ℤ) → 0 < n → pos n *ℤ a ≡ x → pos n *ℤ b ≡ y → pos n *ℤ c ≡ z →
    pos n *ℤ d ≡ w
    → ((a +ℤ b) ≤ℤ (c +ℤ d)) ↔ ((x +ℤ y) ≤ℤ (z +ℤ w))
sums_scaled n a b c d x y z w p ea eb ec ed =
    let l = distributes (pos n) a b in
    let r = distributes (pos n) c d in (
      (λ h. let g = in_order n (a +ℤ b) (c +ℤ d) h in omega (arith, ints)),
      (λ h. back n (a +ℤ b) (c +ℤ d) p (omega (arith, ints))),
    )

pub small_shift : (a k : ℕ) → a < 2 ^ 53 → k ≤ 70 → a * 2 ^ k < 2 ^ 123
small_shift a k h l =
    let m : a * 2 ^ k < 2 ^ 53 * 2 ^ k = mul-lt-mul_of_pos_right h (pow_pos k) in
    lt_of_lt_of_le m (le_trans (le_of_eq (sym (pow-add 2 53 k))) (pow_mono {j = 123} (omega arith)))

-- a double's digits, shifted less far
pub positive_scaled : (d : Digits) (low : ℕ) (z : ℤ) → low ≤ d.shift → z ≡ pos (d.digits * 2 ^ (d.shift - low)) →
    d.negative ≡ false → pos (2 ^ low) *ℤ z ≡ units_by d
positive_scaled d low z h e n =
    ap (λ (i : ℤ). pos (2 ^ low) *ℤ i) e ∙ ap pos (shifted_back d.digits d.shift low h)
    ∙ ap (λ (b : Bool). cond b (neg_ℤ (pos (size_by d))) (pos (size_by d))) (sym n)

pub negative_scaled : (d : Digits) (low : ℕ) (z : ℤ) → low ≤ d.shift → z ≡ pos (d.digits * 2 ^ (d.shift - low)) →
    d.negative ≡ true → pos (2 ^ low) *ℤ (pos 0 -ℤ z) ≡ units_by d
negative_scaled d low z h e n =
    let t : pos 0 -ℤ z ≡ neg_ℤ (pos (d.digits * 2 ^ (d.shift - low))) = omega (arith, ints) in
    ap (λ (i : ℤ). pos (2 ^ low) *ℤ i) t
    ∙ times_negative (2 ^ low) (d.digits * 2 ^ (d.shift - low))
    ∙ ap (λ (i : ℕ). neg_ℤ (pos i)) (shifted_back d.digits d.shift low h)
    ∙ ap (λ (b : Bool). cond b (neg_ℤ (pos (size_by d))) (pos (size_by d))) (sym n)

-- a test that computes to true
pub true_from : (b : Bool) → T b → IsTrue b
true_from true t = refl
true_from false t = absurd t
