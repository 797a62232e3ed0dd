-- Lists of weights of which some are set to 0.
use Rattle.std.proofs.Common.{◌≡◌, ℕ, ℤ, pos, zero, suc, ◌*ℤ◌, ◌+◌, ◌<◌, ◌≤◌, List, [], ◌∷◌, ◌++◌, false, ◌||◌}
use Rattle.std.proofs.Common.{length, min, ◌^◌, ◌-◌, get_or, set, drop, refl, ap, sym, ◌∙◌, arith, inl, inr}
use Rattle.std.proofs.lemmas.Int.{ints}
use Rattle.std.proofs.lemmas.Bool.{cases_eq, ne_eqb, or_parts, or_from, eqb-false}
use Rattle.std.proofs.lemmas.List.{drop_more, get_or-set_same, get_or-set_other, get_or_past}
use Rattle.std.proofs.lemmas.Bool.Decides.{nat_tests}
use Rattle.std.specs.Prelude.{◌==◌}
use lib.IntN.{*ℤ-zero}
use Rattle.row_checker.specs.declared.row.Multiple.{Multiple}
use Rattle.row_checker.specs.Rows.{LinearRow, row_at}
use Rattle.row_checker.specs.Leaves.{above_0, coefficient, greatest, touched_by, variables, weight}
use Rattle.row_checker.specs.inside.Weights.{greatest_in, is_among}
use Rattle.row_checker.proofs.Added.{coefficient_other}

-- one weight is set to 0
pub greatest_without : (ws : List ℤ) (k : ℕ) → k < length ws → greatest_in (set ws k (pos 0)) + above_0 (get_or ws k (pos 0)) ≡ greatest_in ws
greatest_without [] k lt = absurd (omega arith)
greatest_without (w ∷ ws) zero lt = omega arith
greatest_without (w ∷ ws) (suc k) lt = let h = greatest_without ws k (omega (arith, lt)) in omega arith

pub greatest_of_0 : (ws : List ℤ) → ((k : ℕ) → get_or ws k (pos 0) ≡ pos 0) → greatest_in ws ≡ 0
greatest_of_0 [] z = refl
greatest_of_0 (w ∷ ws) z =
    let a : above_0 w ≡ 0 = ap above_0 (z 0) in
    let h = greatest_of_0 ws (λ k. z (suc k)) in
    omega arith

-- the sum over a list is that over its weights
pub greatest_is : (ws : List ℤ) (w : ℕ → ℤ) → ((k : ℕ) → k < length ws → get_or ws k (pos 0) ≡ w k) → greatest_in ws ≡ greatest (length ws) w
greatest_is [] w same = refl
greatest_is (v ∷ ws) w same =
    let a : above_0 v ≡ above_0 (w 0) = ap above_0 (same 0 (omega arith)) in
    let h = greatest_is ws (λ k. w (suc k)) (λ k lt. same (suc k) (omega (arith, lt))) in
    omega arith

-- the weights of variables that aren't left are 0
pub left_less : (ws : List ℤ) (touched : List ℕ) (i v : ℕ) → i < length touched → get_or touched i 0 ≡ v →
    ((k : ℕ) → is_among k (drop i touched) ≡ false → get_or ws k (pos 0) ≡ pos 0) → v < length ws →
    (k : ℕ) → is_among k (drop (i + 1) touched) ≡ false → get_or (set ws v (pos 0)) k (pos 0) ≡ pos 0
left_less ws touched i v lt at z within k none =
    elim (cases_eq v k) [
      | inl e ↦ ap (λ j. get_or (set ws v (pos 0)) j (pos 0)) (sym e) ∙ get_or-set_same ws v (pos 0) (pos 0) within
      | inr n ↦
          let d : is_among k (drop i touched) ≡ is_among k (v ∷ drop (i + 1) touched) =
          ap (is_among k) (drop_more touched i 0 lt) ∙ ap (λ u. is_among k (u ∷ drop (i + 1) touched)) at in
          get_or-set_other ws v k (pos 0) (pos 0) (λ e. n (sym e)) ∙ z k (d ∙ or_from _ _ (ne_eqb v k n) none)
    ]

-- a variable that has no weight is passed over
pub left_same : (ws : List ℤ) (touched : List ℕ) (i v : ℕ) → i < length touched → get_or touched i 0 ≡ v →
    ((k : ℕ) → is_among k (drop i touched) ≡ false → get_or ws k (pos 0) ≡ pos 0) → length ws ≤ v →
    (k : ℕ) → is_among k (drop (i + 1) touched) ≡ false → get_or ws k (pos 0) ≡ pos 0
left_same ws touched i v lt at z past k none =
    elim (cases_eq v k) [
      | inl e ↦ get_or_past ws k (pos 0) (omega arith)
      | inr n ↦
          let d : is_among k (drop i touched) ≡ is_among k (v ∷ drop (i + 1) touched) =
          ap (is_among k) (drop_more touched i 0 lt) ∙ ap (λ u. is_among k (u ∷ drop (i + 1) touched)) at in
          z k (d ∙ or_from _ _ (ne_eqb v k n) none)
    ]

among_both : (k : ℕ) (a b : List ℕ) → is_among k (a ++ b) ≡ (is_among k a || is_among k b)
among_both k [] b = refl
among_both k (j ∷ a) b = let h = among_both k a b in grind (arith, nat_tests)

coefficient_none : (k : ℕ) (terms : List Multiple) → is_among k (variables terms) ≡ false → coefficient k terms ≡ pos 0
coefficient_none k [] none = refl
coefficient_none k (t ∷ terms) none =
    let p = or_parts (t.of == k) (is_among k (variables terms)) none in
    coefficient_other k t terms (eqb-false t.of k p.0) ∙ coefficient_none k terms p.1

-- a variable of no row has the weight 0
pub weight_none : (rows : List LinearRow) (ms : List Multiple) (k : ℕ) → is_among k (touched_by rows ms) ≡ false → weight rows ms k ≡ pos 0
weight_none rows [] k none = refl
weight_none rows (m ∷ ms) k none =
    let terms = (row_at rows m.of).terms in
    let p = or_parts (is_among k (variables terms)) (is_among k (touched_by rows ms)) (sym (among_both k (variables terms) (touched_by rows ms)) ∙ none) in
    let c = ap (λ v. m.times *ℤ v) (coefficient_none k terms p.0) ∙ *ℤ-zero m.times in
    let h = weight_none rows ms k p.1 in
    omega (arith, ints)

-- of these variables some are left to set to 0
pub record IsDraining (before ws : List ℤ) (sum : ℕ) (left : List ℕ) : Type 0 where
  pub sums : min (sum + greatest_in ws) (2 ^ 128 - 1) ≡ min (greatest_in before) (2 ^ 128 - 1)
  pub zero : (k : ℕ) → is_among k left ≡ false → get_or ws k (pos 0) ≡ pos 0
  pub fits : sum < 2 ^ 128

-- one variable more, which has a weight
pub drained_more : (before ws : List ℤ) (sum more : ℕ) (touched : List ℕ) (i v : ℕ) → i < length touched → get_or touched i 0 ≡ v → v < length ws →
    more ≡ min (sum + above_0 (get_or ws v (pos 0))) (2 ^ 128 - 1) →
    IsDraining before ws sum (drop i touched) → IsDraining before (set ws v (pos 0)) more (drop (i + 1) touched)
drained_more before ws sum more touched i v lt at within e h = record {
  sums = let g = greatest_without ws v within in let s = h.sums in omega arith;
  zero = left_less ws touched i v lt at h.zero within;
  fits = omega arith;
}

-- and one which has none
pub passed_more : (before ws : List ℤ) (sum : ℕ) (touched : List ℕ) (i v : ℕ) → i < length touched → get_or touched i 0 ≡ v → length ws ≤ v →
    IsDraining before ws sum (drop i touched) → IsDraining before ws sum (drop (i + 1) touched)
passed_more before ws sum touched i v lt at past h = record {
  sums = h.sums;
  zero = left_same ws touched i v lt at h.zero past;
  fits = h.fits;
}
