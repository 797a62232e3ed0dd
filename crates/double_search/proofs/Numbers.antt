-- Lanes of doubles of which those that are no number are replaced.
use Rattle.std.proofs.Common.{◌≡◌, ℕ, ◌^◌, ◌-◌, ◌⊎◌, inl, inr, Bool, true, false, not, cond, List, [], ◌∷◌, map}
use Rattle.std.proofs.Common.{refl, sym, ap, ◌∙◌, subst}
use mathlib.Core.Bool.{true≢false}
use lib.Dec.{T}
use lib.Lanes.{Each1, sel_l, top, zip2}
use lib.Ieee.{Float, nan, inf, fin, eq, is_nan, of_bits, binary64}

either : (b : Bool) → (b ≡ true) ⊎ (b ≡ false)
either true = inl refl
either false = inr refl

-- what equals itself is a number
pub equal_is : (x : Float) → eq x x ≡ true → T (not (is_nan x))
unfolding eq is_nan
equal_is nan h = absurd (true≢false (sym h))
equal_is (inf s) h = tt
equal_is (fin s m e) h = tt

pub magic_is : T (not (is_nan (of_bits binary64 4843621399236968448)))
unfolding of_bits is_nan
magic_is = tt

-- the lanes that equal themselves, and those of another vector in place of the rest
pub kept : (P : Float → Type 0) (same : Float → Float → ℕ) (xs ys : List Float) →
    ((a b : Float) → same a b ≡ cond (eq a b) (2 ^ 64 - 1) 0) → ((a : Float) → eq a a ≡ true → P a) → Each1 P ys →
    Each1 P (sel_l (map (top 63) (zip2 same xs xs)) xs ys)
kept P same [] ys is own g = tt
kept P same (x ∷ xs) [] is own g = tt
kept P same (x ∷ xs) (y ∷ ys) is own g = (one (either (eq x x)), kept P same xs ys is own g.1) where
  lane : (b : Bool) → eq x x ≡ b → top 63 (same x x) ≡ top 63 (cond b (2 ^ 64 - 1) 0)
  lane b e = ap (top 63) (is x x ∙ ap (λ (c : Bool). cond c (2 ^ 64 - 1) 0) e)

  one : (eq x x ≡ true) ⊎ (eq x x ≡ false) → P (cond (top 63 (same x x)) x y)
  one (inl t) = subst (λ (b : Bool). P (cond b x y)) (sym (lane true t)) (own x t)
  one (inr f) = subst (λ (b : Bool). P (cond b x y)) (sym (lane false f)) g.0
