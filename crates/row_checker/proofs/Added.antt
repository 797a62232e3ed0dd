-- Sums over the terms of rows, one term more.
use Rattle.std.proofs.Common.{◌≡◌, ℕ, ℤ, pos, negsuc, ◌+ℤ◌, ◌*ℤ◌, ◌+◌, ◌*◌, ◌<◌, ◌≤◌, List, ◌∷◌, length, set, get_or, drop, arith, ap, sym, ◌∙◌, inl, inr}
use Rattle.std.proofs.lemmas.Int.{ints, unsigned_abs-mul}
use Rattle.std.proofs.lemmas.Bool.{cases_eq, eq-eqb, ne_eqb}
use Rattle.std.proofs.lemmas.List.{drop_more, get_or-set_same, get_or-set_other}
use Rattle.std.specs.Prelude.{if◌then◌else◌}
use Rattle.std.specs.Int.RustNames.{unsigned_abs}
use borrow.Author.Differences.{up, down}
use Rattle.row_checker.specs.declared.row.Multiple.{Multiple}
use Rattle.row_checker.specs.Leaves.{coefficient, terms_size}
use Rattle.assign_core.proofs.Products.{distributes}

abs_is : (z : ℤ) → unsigned_abs z ≡ up z + down z
abs_is (pos n) = omega arith
abs_is (negsuc n) = omega arith

-- the absolute value of a sum
pub abs_sum : (a b : ℤ) → unsigned_abs (a +ℤ b) ≤ unsigned_abs a + unsigned_abs b
abs_sum a b =
    let x = abs_is a in
    let y = abs_is b in
    let z = abs_is (a +ℤ b) in
    omega (arith, ints)

pub terms_size_more : (times : ℤ) (terms : List Multiple) (i : ℕ) (d : Multiple) → i < length terms →
    terms_size times (drop i terms) ≡ unsigned_abs times * unsigned_abs (get_or terms i d).times + terms_size times (drop (i + 1) terms)
terms_size_more times terms i d lt = ap (terms_size times) (drop_more terms i d lt)

pub coefficient_own : (k : ℕ) (t : Multiple) (terms : List Multiple) → t.of ≡ k → coefficient k (t ∷ terms) ≡ t.times +ℤ coefficient k terms
coefficient_own k t terms e = ap (λ b. (if b then t.times else pos 0) +ℤ coefficient k terms) (eq-eqb t.of k e)

pub coefficient_other : (k : ℕ) (t : Multiple) (terms : List Multiple) → ¬ (t.of ≡ k) → coefficient k (t ∷ terms) ≡ coefficient k terms
coefficient_other k t terms n =
    let e = ap (λ b. (if b then t.times else pos 0) +ℤ coefficient k terms) (ne_eqb t.of k n) in
    omega (arith, ints)

-- the terms that are left, from term i on
left_is : (k : ℕ) (terms : List Multiple) (i : ℕ) (t d : Multiple) → i < length terms → get_or terms i d ≡ t →
    coefficient k (drop i terms) ≡ coefficient k (t ∷ drop (i + 1) terms)
left_is k terms i t d lt at = ap (coefficient k) (drop_more terms i d lt) ∙ ap (λ u. coefficient k (u ∷ drop (i + 1) terms)) at

pub coefficient_here : (k : ℕ) (terms : List Multiple) (i : ℕ) (t d : Multiple) → i < length terms → get_or terms i d ≡ t → t.of ≡ k →
    coefficient k (drop i terms) ≡ t.times +ℤ coefficient k (drop (i + 1) terms)
coefficient_here k terms i t d lt at e = left_is k terms i t d lt at ∙ coefficient_own k t (drop (i + 1) terms) e

pub coefficient_else : (k : ℕ) (terms : List Multiple) (i : ℕ) (t d : Multiple) → i < length terms → get_or terms i d ≡ t → ¬ (t.of ≡ k) →
    coefficient k (drop i terms) ≡ coefficient k (drop (i + 1) terms)
coefficient_else k terms i t d lt at n = left_is k terms i t d lt at ∙ coefficient_other k t (drop (i + 1) terms) n

-- a term's multiple is added to the weight of its variable: each weight with what is left to add
pub weight_added : (ws : List ℤ) (terms : List Multiple) (i k : ℕ) (times w z : ℤ) (t d : Multiple) →
    i < length terms → get_or terms i d ≡ t → t.of < length ws → get_or ws t.of (pos 0) ≡ w → z ≡ w +ℤ (times *ℤ t.times) →
    (get_or (set ws t.of z) k (pos 0) +ℤ (times *ℤ coefficient k (drop (i + 1) terms))) ≡ (get_or ws k (pos 0) +ℤ (times *ℤ coefficient k (drop i terms)))
weight_added ws terms i k times w z t d lt at within read sum =
    elim (cases_eq t.of k) [
      | inl e ↦
          let c = ap (λ v. times *ℤ v) (coefficient_here k terms i t d lt at e) ∙ distributes times t.times (coefficient k (drop (i + 1) terms)) in
          let n : get_or (set ws t.of z) k (pos 0) ≡ z = ap (λ j. get_or (set ws t.of z) j (pos 0)) (sym e) ∙ get_or-set_same ws t.of z (pos 0) within in
          let o : get_or ws k (pos 0) ≡ w = ap (λ j. get_or ws j (pos 0)) (sym e) ∙ read in
          omega (arith, ints)
      | inr n ↦
          let c = ap (λ v. times *ℤ v) (coefficient_else k terms i t d lt at n) in
          let o : get_or (set ws t.of z) k (pos 0) ≡ get_or ws k (pos 0) = get_or-set_other ws t.of k z (pos 0) (λ e. n (sym e)) in
          omega (arith, ints)
    ]

-- and its absolute value with the sizes that are left
pub weight_bounded : (ws : List ℤ) (terms : List Multiple) (i k limit : ℕ) (times w z : ℤ) (t d : Multiple) →
    i < length terms → get_or terms i d ≡ t → t.of < length ws → get_or ws t.of (pos 0) ≡ w → z ≡ w +ℤ (times *ℤ t.times) →
    ((j : ℕ) → j < length ws → unsigned_abs (get_or ws j (pos 0)) + terms_size times (drop i terms) < limit) → k < length ws →
    unsigned_abs (get_or (set ws t.of z) k (pos 0)) + terms_size times (drop (i + 1) terms) < limit
weight_bounded ws terms i k limit times w z t d lt at within read sum small room =
    let m : terms_size times (drop i terms) ≡ unsigned_abs times * unsigned_abs t.times + terms_size times (drop (i + 1) terms) =
    terms_size_more times terms i d lt ∙ ap (λ u. unsigned_abs times * unsigned_abs u.times + terms_size times (drop (i + 1) terms)) at in
    elim (cases_eq t.of k) [
      | inl e ↦
          let n : get_or (set ws t.of z) k (pos 0) ≡ z = ap (λ j. get_or (set ws t.of z) j (pos 0)) (sym e) ∙ get_or-set_same ws t.of z (pos 0) within in
          let a : unsigned_abs (get_or (set ws t.of z) k (pos 0)) ≡ unsigned_abs (w +ℤ (times *ℤ t.times)) = ap unsigned_abs (n ∙ sum) in
          let b = abs_sum w (times *ℤ t.times) in
          let p = unsigned_abs-mul times t.times in
          let r : unsigned_abs (get_or ws t.of (pos 0)) ≡ unsigned_abs w = ap unsigned_abs read in
          let s = small t.of within in
          omega arith
      | inr n ↦
          let o : unsigned_abs (get_or (set ws t.of z) k (pos 0)) ≡ unsigned_abs (get_or ws k (pos 0)) =
          ap unsigned_abs (get_or-set_other ws t.of k z (pos 0) (λ e. n (sym e))) in
          let s = small k room in
          omega arith
    ]

-- a term whose variable has no weight adds nothing to the others
pub coefficient_past : (ws : List ℤ) (terms : List Multiple) (i k : ℕ) (t d : Multiple) →
    i < length terms → get_or terms i d ≡ t → length ws ≤ t.of → k < length ws →
    coefficient k (drop i terms) ≡ coefficient k (drop (i + 1) terms)
coefficient_past ws terms i k t d lt at past within = coefficient_else k terms i t d lt at (λ e. absurd (omega arith))
