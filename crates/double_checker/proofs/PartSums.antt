-- Parts of sums joined, which have the sign of the whole.
use Rattle.std.proofs.Common.{◌≡◌, ℕ, ℤ, pos, negsuc, neg_ℤ, ◌+ℤ◌, ◌-ℤ◌, ◌*ℤ◌, ◌≤ℤ◌, ◌<ℤ◌, ◌<◌, ◌≤◌, ◌+◌, ◌-◌, ◌*◌, ◌^◌, ◌%◌}
use Rattle.std.proofs.Common.{inl, inr, arith, refl, ap, sym, ◌∙◌, suc, min, to_z, ◌↔◌, IsTrue, true}
use Rattle.std.specs.Int.{w128}
use Rattle.std.proofs.lemmas.Int.{ints, by_lt_z, to_z_pos}
use Rattle.std.proofs.lemmas.Nat.{shl_whole}
use Rattle.std.proofs.lemmas.Float.{T_from_true}
use Rattle.std.proofs.Math.IntN.{pos-*ℤ-negsuc}
use Rattle.std.proofs.Math.Nat.{mul-le-mul_right}
use native.Mathlib.Nat.{mul_assoc, mul-pos}
use lib.Pow.{pow-add, pow_pos, pow_mono}
use lib.Signed.{lt_z}
use Rattle.assign_core.proofs.Products.{distributes}
use Rattle.double_costs.proofs.Multiples.{in_order}
use Rattle.double_checker.specs.declared.digits.Digits.{Digits}
use Rattle.double_checker.specs.declared.sums.Part.{Part}
use Rattle.double_checker.specs.inside.Sizes.{units_by}
use Rattle.double_checker.specs.inside.Parts.{IsAboveRoom, IsBelowRoom, IsSmall, Tells, part_units}
use Rattle.double_checker.proofs.Scales.{negative_scaled, times_negative, true_from}

-- a double below 0 as a part
pub negative_part : (d : Digits) (u : ℤ) → u ≡ units_by d → d.negative ≡ true → pos (2 ^ d.shift) *ℤ (pos 0 -ℤ pos d.digits) ≡ u
negative_part d u e n =
    let none : d.shift - d.shift ≡ 0 = omega arith in
    let one : d.digits ≡ d.digits * 1 = omega arith in
    let z : pos d.digits ≡ pos (d.digits * 2 ^ (d.shift - d.shift)) = ap pos one ∙ ap (λ (k : ℕ). pos (d.digits * 2 ^ k)) (sym none) in
    negative_scaled d d.shift (pos d.digits) (omega arith) z n ∙ sym e

-- a power of two as a number of 128 bits
pub power_is : (k : ℕ) → k ≤ 60 → to_z w128 (1 * 2 ^ k % 2 ^ 64) ≡ pos (2 ^ k)
power_is k h =
    let whole : 1 * 2 ^ k % 2 ^ 64 ≡ 1 * 2 ^ k = shl_whole 1 1 k 64 (omega arith) (omega arith) in
    let one : 1 * 2 ^ k ≡ 2 ^ k = omega arith in
    let most : 2 ^ k ≤ 2 ^ 60 = pow_mono {j = 60} h in
    ap (to_z w128) (whole ∙ one) ∙ to_z_pos w128 (2 ^ k) (omega arith)

-- a count from m on, or to -m, times n
from_count : (n m : ℕ) (x : ℤ) → pos m ≤ℤ x → pos (n * m) ≤ℤ (pos n *ℤ x)
from_count n m x h = in_order n (pos m) x h

to_count : (n m : ℕ) (x : ℤ) → x ≤ℤ neg_ℤ (pos m) → (pos n *ℤ x) ≤ℤ neg_ℤ (pos (n * m))
to_count n m x h = let e = times_negative n m in let i = in_order n x (neg_ℤ (pos m)) h in omega (arith, ints)

pub product_from : (k : ℕ) (x : ℤ) → k ≤ 60 → neg_ℤ (pos (2 ^ 56)) <ℤ x → neg_ℤ (pos (2 ^ 116)) ≤ℤ (pos (2 ^ k) *ℤ x)
product_from k x h low =
    let e = times_negative (2 ^ k) (2 ^ 56) in
    let i = in_order (2 ^ k) (neg_ℤ (pos (2 ^ 56))) x (omega (arith, ints)) in
    let most : 2 ^ k ≤ 2 ^ 60 = pow_mono {j = 60} h in
    omega (arith, ints)

pub product_to : (k : ℕ) (x : ℤ) → k ≤ 60 → x <ℤ pos (2 ^ 56) → (pos (2 ^ k) *ℤ x) ≤ℤ pos (2 ^ 116)
product_to k x h high =
    let i = in_order (2 ^ k) x (pos (2 ^ 56)) (omega (arith, ints)) in
    let most : 2 ^ k ≤ 2 ^ 60 = pow_mono {j = 60} h in
    omega (arith, ints)

-- two powers and a count
nat_powers : (s t g k : ℕ) → s ≡ t + g → 2 ^ s * k ≡ 2 ^ t * (2 ^ g * k)
nat_powers s t g k e = ap (λ (i : ℕ). 2 ^ i * k) e ∙ ap (λ (z : ℕ). z * k) (pow-add 2 t g) ∙ mul_assoc (2 ^ t) (2 ^ g) k

powers : (s t g : ℕ) (x : ℤ) → s ≡ t + g → pos (2 ^ s) *ℤ x ≡ pos (2 ^ t) *ℤ (pos (2 ^ g) *ℤ x)
powers s t g (pos k) e = ap pos (nat_powers s t g k e)
powers s t g (negsuc k) e =
    pos-*ℤ-negsuc (2 ^ s) k ∙ ap (λ (i : ℕ). neg_ℤ (pos i)) (nat_powers s t g (suc k) e)
    ∙ sym (ap (λ (z : ℤ). pos (2 ^ t) *ℤ z) (pos-*ℤ-negsuc (2 ^ g) k) ∙ times_negative (2 ^ t) (2 ^ g * suc k))

-- less room
less_room : (n a b : ℕ) → b ≤ a → n * (a - b) + n * b ≡ n * a
less_room n a b h =
    let e : a - b + b ≡ a = omega arith in
    let d : pos n *ℤ (pos (a - b) +ℤ pos b) ≡ (pos n *ℤ pos (a - b)) +ℤ (pos n *ℤ pos b) = distributes (pos n) (pos (a - b)) (pos b) in
    let f : pos n *ℤ (pos (a - b) +ℤ pos b) ≡ pos (n * (a - b + b)) = refl in
    let g : pos (n * (a - b)) +ℤ pos (n * b) ≡ pos (n * (a - b + b)) = sym d ∙ f in
    let k : n * (a - b + b) ≡ n * a = ap (λ (i : ℕ). n * i) e in
    omega (arith, ints)

wider : (s t room : ℕ) → t ≤ s → 2 ^ t * room ≤ 2 ^ s * room
wider s t room h = mul-le-mul_right room (pow_mono {i = t} {j = s} h)

-- what one more double may take away, or add
taken : (t : ℕ) (y : ℤ) → neg_ℤ (pos (2 ^ 53)) <ℤ y → neg_ℤ (pos (2 ^ t * 2 ^ 53)) ≤ℤ (pos (2 ^ t) *ℤ y)
taken t y h =
    let e = times_negative (2 ^ t) (2 ^ 53) in
    let i = in_order (2 ^ t) (neg_ℤ (pos (2 ^ 53))) y (omega (arith, ints)) in
    omega (arith, ints)

added : (t : ℕ) (y : ℤ) → y <ℤ pos (2 ^ 53) → (pos (2 ^ t) *ℤ y) ≤ℤ pos (2 ^ t * 2 ^ 53)
added t y h = in_order (2 ^ t) y (pos (2 ^ 53)) (omega (arith, ints))

above_step : (room : ℕ) (total : ℤ) (x y : Part) → y.shift ≤ x.shift → IsSmall y → 2 ^ 53 ≤ room → IsAboveRoom room total x →
    IsAboveRoom (room - 2 ^ 53) (total +ℤ part_units y) (record { count = x.count; shift = y.shift })
above_step room total x y order small enough above =
    let w = wider x.shift y.shift room order in
    let l = less_room (2 ^ y.shift) room (2 ^ 53) enough in
    let t = taken y.shift y.count small.low in
    let a = above.total_is in
    record { said = above.said; total_is = omega (arith, ints) }

below_step : (room : ℕ) (total : ℤ) (x y : Part) → y.shift ≤ x.shift → IsSmall y → 2 ^ 53 ≤ room → IsBelowRoom room total x →
    IsBelowRoom (room - 2 ^ 53) (total +ℤ part_units y) (record { count = x.count; shift = y.shift })
below_step room total x y order small enough below =
    let w = wider x.shift y.shift room order in
    let l = less_room (2 ^ y.shift) room (2 ^ 53) enough in
    let t = added y.shift y.count small.high in
    let a = below.total_is in
    record { said = below.said; total_is = omega (arith, ints) }

is_above : (room : ℕ) (total : ℤ) (x : Part) → room ≤ 2 ^ 56 → pos (2 ^ 56) ≤ℤ x.count → Tells room total x → IsAboveRoom room total x
is_above room total x most h (inl e) =
    let f = from_count (2 ^ x.shift) (2 ^ 56) x.count h in
    let m : room * 2 ^ x.shift ≤ 2 ^ 56 * 2 ^ x.shift = mul-le-mul_right (2 ^ x.shift) most in
    let c : 2 ^ x.shift * room ≡ room * 2 ^ x.shift = omega arith in
    record { said = h; total_is = omega (arith, ints) }
is_above room total x most h (inr (inl a)) = a
is_above room total x most h (inr (inr b)) = let s = b.said in absurd (omega (arith, ints))

is_below : (room : ℕ) (total : ℤ) (x : Part) → room ≤ 2 ^ 56 → x.count ≤ℤ neg_ℤ (pos (2 ^ 56)) → Tells room total x → IsBelowRoom room total x
is_below room total x most h (inl e) =
    let f = to_count (2 ^ x.shift) (2 ^ 56) x.count h in
    let m : room * 2 ^ x.shift ≤ 2 ^ 56 * 2 ^ x.shift = mul-le-mul_right (2 ^ x.shift) most in
    let c : 2 ^ x.shift * room ≡ room * 2 ^ x.shift = omega arith in
    record { said = h; total_is = omega (arith, ints) }
is_below room total x most h (inr (inl a)) = let s = a.said in absurd (omega (arith, ints))
is_below room total x most h (inr (inr b)) = b

pub settled_high : (room : ℕ) (total : ℤ) (x y : Part) → y.shift ≤ x.shift → IsSmall y → 2 ^ 53 ≤ room → room ≤ 2 ^ 56 →
    pos (2 ^ 56) ≤ℤ x.count → Tells room total x → Tells (room - 2 ^ 53) (total +ℤ part_units y) (record { count = x.count; shift = y.shift })
settled_high room total x y order small enough most h t =
    inr (inl (above_step room total x y order small enough (is_above room total x most h t)))

pub settled_low : (room : ℕ) (total : ℤ) (x y : Part) → y.shift ≤ x.shift → IsSmall y → 2 ^ 53 ≤ room → room ≤ 2 ^ 56 →
    x.count ≤ℤ neg_ℤ (pos (2 ^ 56)) → Tells room total x → Tells (room - 2 ^ 53) (total +ℤ part_units y) (record { count = x.count; shift = y.shift })
settled_low room total x y order small enough most h t =
    inr (inr (below_step room total x y order small enough (is_below room total x most h t)))

-- a part that isn't settled is the total
is_total : (room : ℕ) (total : ℤ) (x : Part) → neg_ℤ (pos (2 ^ 56)) <ℤ x.count → x.count <ℤ pos (2 ^ 56) → Tells room total x → part_units x ≡ total
is_total room total x low high (inl e) = e
is_total room total x low high (inr (inl a)) = let s = a.said in absurd (omega (arith, ints))
is_total room total x low high (inr (inr b)) = let s = b.said in absurd (omega (arith, ints))

-- far above the next double: by 61 places or more
far : (s t : ℕ) → t + 61 ≤ s → 2 ^ t * 2 ^ 61 ≤ 2 ^ s
far s t h = let e = pow-add 2 t 61 in let m : 2 ^ (t + 61) ≤ 2 ^ s = pow_mono {i = t + 61} {j = s} h in omega arith

near_step : (room : ℕ) (total r : ℤ) (x y : Part) → y.shift ≤ x.shift → part_units x ≡ total → r ≡ pos (2 ^ (x.shift - y.shift)) *ℤ x.count →
    Tells (room - 2 ^ 53) (total +ℤ part_units y) (record { count = r +ℤ y.count; shift = y.shift })
near_step room total r x y order e f =
    let s : x.shift ≡ y.shift + (x.shift - y.shift) = omega arith in
    let p = powers x.shift y.shift (x.shift - y.shift) x.count s in
    let q : pos (2 ^ y.shift) *ℤ r ≡ pos (2 ^ y.shift) *ℤ (pos (2 ^ (x.shift - y.shift)) *ℤ x.count) = ap (λ (z : ℤ). pos (2 ^ y.shift) *ℤ z) f in
    let d = distributes (pos (2 ^ y.shift)) r y.count in
    inl (omega (arith, ints))

none_step : (room : ℕ) (total r : ℤ) (x y : Part) → part_units x ≡ total → x.count ≡ pos 0 → r ≡ pos (2 ^ 60) *ℤ x.count →
    Tells (room - 2 ^ 53) (total +ℤ part_units y) (record { count = r +ℤ y.count; shift = y.shift })
none_step room total r x y e z f =
    let a : pos (2 ^ x.shift) *ℤ x.count ≡ pos (2 ^ x.shift * 0) = ap (λ (i : ℤ). pos (2 ^ x.shift) *ℤ i) z in
    let b : pos (2 ^ 60) *ℤ x.count ≡ pos 0 = ap (λ (i : ℤ). pos (2 ^ 60) *ℤ i) z in
    let g : r +ℤ y.count ≡ y.count = omega (arith, ints) in
    let k : pos (2 ^ y.shift) *ℤ (r +ℤ y.count) ≡ pos (2 ^ y.shift) *ℤ y.count = ap (λ (i : ℤ). pos (2 ^ y.shift) *ℤ i) g in
    inl (omega (arith, ints))

high_step : (room : ℕ) (total r : ℤ) (x y : Part) → y.shift + 61 ≤ x.shift → IsSmall y → 2 ^ 53 ≤ room → room ≤ 2 ^ 56 →
    part_units x ≡ total → pos 1 ≤ℤ x.count → r ≡ pos (2 ^ 60) *ℤ x.count →
    Tells (room - 2 ^ 53) (total +ℤ part_units y) (record { count = r +ℤ y.count; shift = y.shift })
high_step room total r x y order small enough most e h f =
    let u = far x.shift y.shift order in
    let a = from_count (2 ^ x.shift) 1 x.count h in
    let b = from_count (2 ^ 60) 1 x.count h in
    let t = taken y.shift y.count small.low in
    let l = less_room (2 ^ y.shift) room (2 ^ 53) enough in
    let m : room * 2 ^ y.shift ≤ 2 ^ 56 * 2 ^ y.shift = mul-le-mul_right (2 ^ y.shift) most in
    let c : 2 ^ y.shift * room ≡ room * 2 ^ y.shift = omega arith in
    let low = small.low in
    inr (inl (record { said = omega (arith, ints); total_is = omega (arith, ints) }))

low_step : (room : ℕ) (total r : ℤ) (x y : Part) → y.shift + 61 ≤ x.shift → IsSmall y → 2 ^ 53 ≤ room → room ≤ 2 ^ 56 →
    part_units x ≡ total → x.count ≤ℤ neg_ℤ (pos 1) → r ≡ pos (2 ^ 60) *ℤ x.count →
    Tells (room - 2 ^ 53) (total +ℤ part_units y) (record { count = r +ℤ y.count; shift = y.shift })
low_step room total r x y order small enough most e h f =
    let u = far x.shift y.shift order in
    let a = to_count (2 ^ x.shift) 1 x.count h in
    let b = to_count (2 ^ 60) 1 x.count h in
    let t = added y.shift y.count small.high in
    let l = less_room (2 ^ y.shift) room (2 ^ 53) enough in
    let m : room * 2 ^ y.shift ≤ 2 ^ 56 * 2 ^ y.shift = mul-le-mul_right (2 ^ y.shift) most in
    let c : 2 ^ y.shift * room ≡ room * 2 ^ y.shift = omega arith in
    let high = small.high in
    inr (inr (record { said = omega (arith, ints); total_is = omega (arith, ints) }))

far_step : (room : ℕ) (total r : ℤ) (x y : Part) → y.shift + 61 ≤ x.shift → IsSmall y → 2 ^ 53 ≤ room → room ≤ 2 ^ 56 →
    part_units x ≡ total → r ≡ pos (2 ^ 60) *ℤ x.count →
    Tells (room - 2 ^ 53) (total +ℤ part_units y) (record { count = r +ℤ y.count; shift = y.shift })
far_step room total r x y order small enough most e f =
    let P : Type 0 = Tells (room - 2 ^ 53) (total +ℤ part_units y) (record { count = r +ℤ y.count; shift = y.shift }) in
    by_lt_z {P = P} (pos 0) x.count
    (λ lt. high_step room total r x y order small enough most e (omega (arith, ints)) f)
    (λ le. by_lt_z {P = P} x.count (pos 0)
    (λ lt. low_step room total r x y order small enough most e (omega (arith, ints)) f)
    (λ ge. none_step room total r x y e (omega (arith, ints)) f))

pub unsettled : (room : ℕ) (total r : ℤ) (by : ℕ) (x y : Part) → y.shift ≤ x.shift → IsSmall y → 2 ^ 53 ≤ room → room ≤ 2 ^ 56 →
    neg_ℤ (pos (2 ^ 56)) <ℤ x.count → x.count <ℤ pos (2 ^ 56) → by ≡ min (x.shift - y.shift) 60 → r ≡ pos (2 ^ by) *ℤ x.count →
    Tells room total x → Tells (room - 2 ^ 53) (total +ℤ part_units y) (record { count = r +ℤ y.count; shift = y.shift })
unsettled room total r by x y order small enough most low high b f t =
    let e = is_total room total x low high t in
    by_lt_z {P = Tells (room - 2 ^ 53) (total +ℤ part_units y) (record { count = r +ℤ y.count; shift = y.shift })}
    (pos 60) (pos (x.shift - y.shift))
    (λ lt. let g : by ≡ 60 = omega (arith, ints) in
    far_step room total r x y (omega (arith, ints)) small enough most e (f ∙ ap (λ (k : ℕ). pos (2 ^ k) *ℤ x.count) g))
    (λ le. let g : by ≡ x.shift - y.shift = omega (arith, ints) in
    near_step room total r x y order e (f ∙ ap (λ (k : ℕ). pos (2 ^ k) *ℤ x.count) g))

-- the sign
pub sign_told : (room : ℕ) (total : ℤ) (p : Part) → 0 < room → Tells room total p → (p.count <ℤ pos 0) ↔ (total <ℤ pos 0)
sign_told room total p some (inl e) =
    let n = pow_pos p.shift in (
      (λ h. let f = to_count (2 ^ p.shift) 1 p.count (omega (arith, ints)) in omega (arith, ints)),
      (λ h. by_lt_z {P = p.count <ℤ pos 0} p.count (pos 0) (λ lt. lt)
          (λ ge. let f = from_count (2 ^ p.shift) 0 p.count ge in absurd (omega (arith, ints)))),
    )
sign_told room total p some (inr (inl a)) =
    let s = a.said in let t = a.total_is in (
      (λ h. absurd (omega (arith, ints))),
      (λ h. absurd (omega (arith, ints))),
    )
sign_told room total p some (inr (inr b)) =
    let s = b.said in let t = b.total_is in let m : 0 < 2 ^ p.shift * room = mul-pos (pow_pos p.shift) some in (
      (λ h. omega (arith, ints)),
      (λ h. omega (arith, ints)),
    )

pub tested_less : (x y : ℤ) → IsTrue (lt_z x y) ↔ (x <ℤ y)
tested_less x y = ((λ h. record { lt = T_from_true (lt_z x y) h }), (λ h. true_from (lt_z x y) h.lt))
