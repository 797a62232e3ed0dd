-- Lanes of benefits less narrow prices, compared with a limit.
use Rattle.std.proofs.Common.{◌≡◌, ℕ, ℤ, pos, ◌-ℤ◌, ◌≤ℤ◌, ◌+◌, ◌-◌, ◌≤◌, ◌<◌, ◌%◌, ◌^◌, Bool, true, false, not}
use Rattle.std.proofs.Common.{cond, eqb, List, length, map, replicate, get_or, to_z, of_z, w64, refl, sym, ap, ap₂}
use Rattle.std.proofs.Common.{◌∙◌, arith, inl, inr, ◌⊎◌, SFits}
use Rattle.std.specs.List.{All}
use Rattle.std.specs.Int.Signed.{lt_z}
use Rattle.std.proofs.lemmas.Int.{ints, to_z-of_z, wrapping_sub_is, int_wrap_fits}
use Rattle.std.proofs.lemmas.Bool.{eqb-true, both_ways, not-true}
use Rattle.std.proofs.lemmas.Simd.{zip2_splat_left, length-zip2, get_or-zip2, mask_l-mod, length-chunk, get_or-chunk, leading_from_mask_l}
use Rattle.std.proofs.lemmas.List.{length-map, get_or-map, get_or_default}
use Rattle.std.proofs.lemmas.List.Sums.{prefix_len_passes}
use lib.Lanes.{chunk, zip2, mask_l, top}
use Rattle.assign_core.specs.Benefits.{IsBenefit}
use Rattle.assign_core.specs.Prices.{IsNarrow}
use Rattle.assign_core.proofs.Orders.{where_not_less}
use Rattle.bidder.proofs.Skips.{difference_fits}

either : (b : Bool) → (b ≡ true) ⊎ (b ≡ false)
either true = inl refl
either false = inr refl

-- a lane that isn't set
lane_clear : (limit value : ℤ) (lane : ℕ) → lane ≡ cond (lt_z limit value) (2 ^ 64 - 1) 0 → top 63 lane ≡ false → value ≤ℤ limit
lane_clear limit value lane is clear = elim (either (lt_z limit value)) [
  | inl t ↦ absurd (both_ways _ clear (ap (top 63) (is ∙ ap (λ b. cond b 18446744073709551615 0) t)))
  | inr f ↦ where_not_less limit value f
]

-- the wrapping difference of the bits is the difference
wrapped_is : (b n : ℤ) → SFits w64 b → SFits w64 n → SFits w64 (b -ℤ n) → to_z w64 ((of_z w64 b + (2 ^ 64 - of_z w64 n)) % 2 ^ 64) ≡ b -ℤ n
wrapped_is b n f g h = wrapping_sub_is w64 b n f g ∙ int_wrap_fits w64 (b -ℤ n) h

pub lanes_none : (bs ns : List ℤ) (from : ℕ) (limit : ℤ) (less sub : ℕ → ℕ → ℕ) → from + 16 ≤ length bs →
    length bs ≡ length ns → All IsBenefit bs → All IsNarrow ns → SFits w64 limit
    → eqb (mask_l (map (top 63) (zip2 less (replicate 16 (of_z w64 limit))
    (zip2 sub (map (of_z w64) (chunk from 16 bs)) (map (of_z w64) (chunk from 16 ns))))) % 2 ^ 64) 0 ≡ true
    → ((a b : ℕ) → less a b ≡ cond (lt_z (to_z w64 a) (to_z w64 b)) (2 ^ 64 - 1) 0)
    → ((a b : ℕ) → sub a b ≡ (a + (2 ^ 64 - b)) % 2 ^ 64)
    → (k : ℕ) (d : ℤ) → from ≤ k → k < from + 16 → (get_or bs k d -ℤ get_or ns k d) ≤ℤ limit
lanes_none bs ns from limit less sub room long benefits narrow fits none is_less is_sub k d low high =
    let cb = chunk from 16 bs in
    let cn = chunk from 16 ns in
    let lb = length-chunk from 16 bs room in
    let ln = length-chunk from 16 ns (omega arith) in
    let mb = map (of_z w64) cb in
    let mn = map (of_z w64) cn in
    let long_b = length-map cb (of_z w64) ∙ lb in
    let long_n = length-map cn (of_z w64) ∙ ln in
    let v = zip2 sub mb mn in
    let long_v = length-zip2 sub mb mn (long_b ∙ sym long_n) ∙ long_b in
    let l = of_z w64 limit in
    let z = map (less l) v in
    let long_z = length-map v (less l) ∙ long_v in
    let mask = ap (λ w. mask_l (map (top 63) w) % 2 ^ 64) (zip2_splat_left less l 16 v long_v) ∙
    mask_l-mod (map (top 63) z) 64 (omega (arith, length-map z (top 63))) in
    let whole = leading_from_mask_l (top 63) z (sym mask ∙ eqb-true _ 0 none) in
    let j = k - from in
    let back : from + j ≡ k = omega arith in
    let at : j < 16 = omega arith in
    let inside_b : k < length bs = omega arith in
    let inside_n : k < length ns = omega arith in
    let b = get_or bs k (pos 0) in
    let n = get_or ns k (pos 0) in
    let benefit = benefits k (pos 0) inside_b in
    let price = narrow k (pos 0) inside_n in
    let fb : SFits w64 b = benefit_fits b benefit in
    let fn : SFits w64 n = narrow_fits n price in
    let left = get_or-map (of_z w64) cb j (pos 0) 0 (omega arith) ∙ ap (of_z w64) (get_or-chunk from 16 bs j (pos 0) at ∙ ap (λ i. get_or bs i (pos 0)) back) in
    let right = get_or-map (of_z w64) cn j (pos 0) 0 (omega arith) ∙
    ap (of_z w64) (get_or-chunk from 16 ns j (pos 0) at ∙ ap (λ i. get_or ns i (pos 0)) back) in
    let lane = get_or-map (less l) v j 0 0 (omega arith) ∙ ap (less l) (get_or-zip2 sub mb mn j 0 0 0 (omega arith) (omega arith) ∙ ap₂ sub left right) in
    let value = ap (to_z w64) (is_sub (of_z w64 b) (of_z w64 n)) ∙ wrapped_is b n fb fn (difference_fits b n benefit price) in
    let told = lane ∙ is_less l (sub (of_z w64 b) (of_z w64 n)) ∙ ap₂ (λ x y. cond (lt_z x y) (2 ^ 64 - 1) 0) (to_z-of_z w64 limit fits) value in
    let clear = not-true _ (prefix_len_passes (λ x. not (top 63 x)) z j 0 (omega (arith, whole))) in
    rw (get_or_default bs k d (pos 0) inside_b, get_or_default ns k d (pos 0) inside_n) (lane_clear limit (b -ℤ n) (get_or z j 0) told clear) where
      benefit_fits : (b : ℤ) → IsBenefit b → SFits w64 b
      benefit_fits b h = let least = h.least in let greatest = h.greatest in record { sfits = grind (arith, ints) }

      narrow_fits : (n : ℤ) → IsNarrow n → SFits w64 n
      narrow_fits n h = let least = h.least in let greatest = h.greatest in record { sfits = grind (arith, ints) }
