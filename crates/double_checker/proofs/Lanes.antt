-- Lanes of doubles that are compared with two others.
use Rattle.std.proofs.Common.{◌≡◌, ℕ, ◌+◌, ◌-◌, ◌≤◌, ◌<◌, ◌%◌, ◌^◌, Bool, true, false, not, cond, eqb, List, length}
use Rattle.std.proofs.Common.{map, replicate, get_or, refl, sym, ap, ap₂, ◌∙◌, arith, subst}
use mathlib.Core.Bool.{true≢false}
use Rattle.std.proofs.lemmas.Bool.{eqb-true, not-true}
use Rattle.std.proofs.lemmas.Simd.{length-zip2, get_or-zip2, mask_l-mod, length-chunk, get_or-chunk, leading_from_mask_l}
use Rattle.std.proofs.lemmas.List.{length-map, get_or-replicate}
use Rattle.std.proofs.lemmas.List.Sums.{prefix_len_passes}
use lib.Lanes.{chunk, zip2, mask_l, top}
use lib.Ieee.{Float, nan, lt}

-- of two that don't hold together the other one holds
pub not_first : (b c : Bool) → (b ≡ true → c ≡ false) → c ≡ true → b ≡ false
not_first true c h e = absurd (true≢false (sym e ∙ h refl))
not_first false c h e = refl

-- lanes of which none has both bits
both_clear : (fs gs : List ℕ) (band : ℕ → ℕ → ℕ) → length fs ≡ 8 → length gs ≡ 8 →
    eqb (mask_l (map (top 63) (zip2 band fs gs)) % 2 ^ 64) 0 ≡ true → (j : ℕ) → j < 8 →
    top 63 (band (get_or fs j 0) (get_or gs j 0)) ≡ false
both_clear fs gs band la lb none j low =
    let z = zip2 band fs gs in
    let lz = length-zip2 band fs gs (la ∙ sym lb) ∙ la in
    let mask = mask_l-mod (map (top 63) z) 64 (omega (arith, length-map z (top 63))) in
    let whole = leading_from_mask_l (top 63) z (sym mask ∙ eqb-true _ 0 none) in
    let clear = not-true _ (prefix_len_passes (λ x. not (top 63 x)) z j 0 (omega (arith, whole))) in
    subst (λ (x : ℕ). top 63 x ≡ false) (get_or-zip2 band fs gs j 0 0 0 (omega arith) (omega arith)) clear

-- a lane that isn't above one and below the other
lane_not : (b c : Bool) (band : ℕ → ℕ → ℕ) → top 63 (band (2 ^ 64 - 1) (2 ^ 64 - 1)) ≡ true →
    top 63 (band (cond b (2 ^ 64 - 1) 0) (cond c (2 ^ 64 - 1) 0)) ≡ false → b ≡ true → c ≡ false
lane_not true true band h n e = absurd (true≢false (sym h ∙ n))
lane_not true false band h n e = refl
lane_not false c band h n e = absurd (true≢false (sym e))

pub lanes_not : (xs : List Float) (from : ℕ) (low high : Float) (one two : Float → Float → ℕ) (band : ℕ → ℕ → ℕ) →
    from + 8 ≤ length xs
    → eqb (mask_l (map (top 63) (zip2 band (zip2 one (replicate 8 low) (chunk from 8 xs))
    (zip2 two (chunk from 8 xs) (replicate 8 high)))) % 2 ^ 64) 0 ≡ true
    → ((a b : Float) → one a b ≡ cond (lt a b) (2 ^ 64 - 1) 0)
    → ((a b : Float) → two a b ≡ cond (lt a b) (2 ^ 64 - 1) 0) → top 63 (band (2 ^ 64 - 1) (2 ^ 64 - 1)) ≡ true
    → (k : ℕ) → from ≤ k → k < from + 8 → lt low (get_or xs k nan) ≡ true → lt (get_or xs k nan) high ≡ false
lanes_not xs from low high one two band room none is_one is_two set k least most =
    let c = chunk from 8 xs in
    let lc = length-chunk from 8 xs room in
    let rl = replicate 8 low in
    let rh = replicate 8 high in
    let fs = zip2 one rl c in
    let gs = zip2 two c rh in
    let la : length fs ≡ 8 = length-zip2 one rl c (sym lc) in
    let lb : length gs ≡ 8 = length-zip2 two c rh lc ∙ lc in
    let j = k - from in
    let back : from + j ≡ k = omega arith in
    let in_lanes : j < 8 = omega arith in
    let x = get_or xs k nan in
    let at_c = get_or-chunk from 8 xs j nan in_lanes ∙ ap (λ (i : ℕ). get_or xs i nan) back in
    let left = get_or-zip2 one rl c j nan nan 0 (omega arith) (omega arith)
    ∙ ap₂ one (get_or-replicate 8 j low nan in_lanes) at_c ∙ is_one low x in
    let right = get_or-zip2 two c rh j nan nan 0 (omega arith) (omega arith)
    ∙ ap₂ two at_c (get_or-replicate 8 j high nan in_lanes) ∙ is_two x high in
    let clear = both_clear fs gs band la lb none j in_lanes in
    lane_not (lt low x) (lt x high) band set
    (subst (λ (z : ℕ). top 63 z ≡ false) (ap₂ band left right) clear)
