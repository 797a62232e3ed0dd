-- Weights and bounds to which rows are added.
use Rattle.std.proofs.Common.{◌≡◌, ℕ, ℤ, pos, ◌+ℤ◌, ◌*ℤ◌, ◌+◌, ◌*◌, ◌^◌, ◌<◌, ◌≤◌, List, [], ◌∷◌, length, get_or, set, drop, ap, ◌∙◌, arith, inl, inr}
use Rattle.std.proofs.lemmas.Int.{ints, unsigned_abs-mul}
use Rattle.std.proofs.lemmas.Bool.{cases_eq}
use Rattle.std.specs.Int.RustNames.{unsigned_abs}
use lib.IntN.{*ℤ-zero}
use Rattle.row_checker.specs.declared.row.Multiple.{Multiple}
use Rattle.row_checker.specs.Rows.{LinearRow, row_at}
use Rattle.row_checker.specs.Leaves.{bound, coefficient, side_or_0, size, terms_size, weight}
use Rattle.assign_core.proofs.Products.{distributes}
use Rattle.row_checker.proofs.Added.{abs_sum, coefficient_own, coefficient_other, coefficient_past, terms_size_more, weight_added, weight_bounded}

-- of these terms some are left to add
pub record IsAdding (before ws : List ℤ) (times : ℤ) (terms left : List Multiple) : Type 0 where
  pub small : (k : ℕ) → k < length before → unsigned_abs (get_or ws k (pos 0)) + terms_size times left < 2 ^ 127
  pub sums : (k : ℕ) → k < length before → (get_or ws k (pos 0) +ℤ (times *ℤ coefficient k left)) ≡ (get_or before k (pos 0) +ℤ (times *ℤ coefficient k terms))

-- of these multiples some are left to add to the bound
pub record IsBounding (rows : List LinearRow) (sum : ℤ) (ms left : List Multiple) : Type 0 where
  pub small : unsigned_abs sum + size rows left < 2 ^ 127
  pub sums : sum +ℤ bound rows left ≡ bound rows ms

-- and to the weights
pub record IsWeighing (rows : List LinearRow) (n : ℕ) (ws : List ℤ) (ms left : List Multiple) : Type 0 where
  pub small : (k : ℕ) → k < n → unsigned_abs (get_or ws k (pos 0)) + size rows left < 2 ^ 127
  pub sums : (k : ℕ) → k < n → get_or ws k (pos 0) +ℤ weight rows left k ≡ weight rows ms k

-- a multiple of a coefficient is at most the size of the terms
pub coefficient_small : (times : ℤ) (k : ℕ) (terms : List Multiple) → unsigned_abs (times *ℤ coefficient k terms) ≤ terms_size times terms
coefficient_small times k [] = let z = ap unsigned_abs (*ℤ-zero times) in omega arith
coefficient_small times k (t ∷ terms) =
    let h = coefficient_small times k terms in
    elim (cases_eq t.of k) [
      | inl e ↦
          let c = ap (λ v. unsigned_abs (times *ℤ v)) (coefficient_own k t terms e) ∙ ap unsigned_abs (distributes times t.times (coefficient k terms)) in
          let s = abs_sum (times *ℤ t.times) (times *ℤ coefficient k terms) in
          let p = unsigned_abs-mul times t.times in
          omega arith
      | inr n ↦
          let c = ap (λ v. unsigned_abs (times *ℤ v)) (coefficient_other k t terms n) in
          omega arith
    ]

-- one row more: its weights, with those of the rows that are left
pub row_weighed : (rows : List LinearRow) (n : ℕ) (before after : List ℤ) (ms left : List Multiple) (m : Multiple) →
    IsWeighing rows n before ms (m ∷ left) →
    ((k : ℕ) → k < n → get_or after k (pos 0) ≡ get_or before k (pos 0) +ℤ (m.times *ℤ coefficient k (row_at rows m.of).terms)) →
    IsWeighing rows n after ms left
row_weighed rows n before after ms left m w added = record {
  small = λ k lt.
      let terms = (row_at rows m.of).terms in
      let a = ap unsigned_abs (added k lt) in
      let b = abs_sum (get_or before k (pos 0)) (m.times *ℤ coefficient k terms) in
      let c = coefficient_small m.times k terms in
      let s = w.small k lt in
      omega arith;
  sums = λ k lt.
      let a = added k lt in
      let s = w.sums k lt in
      omega (arith, ints);
}

-- the size of a row fits while it is left to add
pub row_fits : (rows : List LinearRow) (n : ℕ) (ws : List ℤ) (ms left : List Multiple) (m : Multiple) → IsWeighing rows n ws ms (m ∷ left) →
    (k : ℕ) → k < n → unsigned_abs (get_or ws k (pos 0)) + terms_size m.times (row_at rows m.of).terms < 2 ^ 127
row_fits rows n ws ms left m w k lt = let s = w.small k lt in omega arith

-- one bound more
pub side_added : (rows : List LinearRow) (before after : ℤ) (ms left : List Multiple) (m : Multiple) →
    IsBounding rows before ms (m ∷ left) → after ≡ before +ℤ (m.times *ℤ side_or_0 rows m) → IsBounding rows after ms left
side_added rows before after ms left m w e = record {
  small =
      let a = ap unsigned_abs e in
      let b = abs_sum before (m.times *ℤ side_or_0 rows m) in
      let p = unsigned_abs-mul m.times (side_or_0 rows m) in
      let s = w.small in
      omega arith;
  sums = let s = w.sums in omega (arith, ints);
}

pub side_fits : (rows : List LinearRow) (before : ℤ) (ms left : List Multiple) (m : Multiple) →
    IsBounding rows before ms (m ∷ left) → unsigned_abs (before +ℤ (m.times *ℤ side_or_0 rows m)) < 2 ^ 127
side_fits rows before ms left m w =
    let b = abs_sum before (m.times *ℤ side_or_0 rows m) in
    let p = unsigned_abs-mul m.times (side_or_0 rows m) in
    let s = w.small in
    omega arith

-- one term more of a variable that has a weight
pub term_weighed : (before ws : List ℤ) (terms : List Multiple) (i : ℕ) (times w z : ℤ) (t d : Multiple) →
    i < length terms → get_or terms i d ≡ t → t.of < length ws → length ws ≡ length before →
    get_or ws t.of (pos 0) ≡ w → z ≡ w +ℤ (times *ℤ t.times) →
    IsAdding before ws times terms (drop i terms) → IsAdding before (set ws t.of z) times terms (drop (i + 1) terms)
term_weighed before ws terms i times w z t d lt at within long read sum h = record {
  small = λ k room. weight_bounded ws terms i k (2 ^ 127) times w z t d lt at within read sum (λ j r. h.small j (omega (arith, r))) (omega arith);
  sums = λ k room. weight_added ws terms i k times w z t d lt at within read sum ∙ h.sums k room;
}

-- one term more of another
pub term_passed : (before ws : List ℤ) (terms : List Multiple) (i : ℕ) (times : ℤ) (t d : Multiple) →
    i < length terms → get_or terms i d ≡ t → length ws ≤ t.of → length ws ≡ length before →
    IsAdding before ws times terms (drop i terms) → IsAdding before ws times terms (drop (i + 1) terms)
term_passed before ws terms i times t d lt at past long h = record {
  small = λ k room.
      let s = h.small k room in
      let m = terms_size_more times terms i d lt in
      omega arith;
  sums = λ k room.
      let e = ap (λ v. times *ℤ v) (coefficient_past ws terms i k t d lt at past (omega arith)) in
      let s = h.sums k room in
      omega (arith, ints);
}

pub term_fits : (before ws : List ℤ) (terms : List Multiple) (i : ℕ) (times w p : ℤ) (t d : Multiple) →
    i < length terms → get_or terms i d ≡ t → t.of < length ws → length ws ≡ length before →
    get_or ws t.of (pos 0) ≡ w → p ≡ times *ℤ t.times →
    IsAdding before ws times terms (drop i terms) → unsigned_abs (w +ℤ p) < 2 ^ 127
term_fits before ws terms i times w p t d lt at within long read e h =
    let s = h.small t.of (omega arith) in
    let r : unsigned_abs (get_or ws t.of (pos 0)) ≡ unsigned_abs w = ap unsigned_abs read in
    let m : terms_size times (drop i terms) ≡ unsigned_abs times * unsigned_abs t.times + terms_size times (drop (i + 1) terms) =
    terms_size_more times terms i d lt ∙ ap (λ u. unsigned_abs times * unsigned_abs u.times + terms_size times (drop (i + 1) terms)) at in
    let b = abs_sum w p in
    let q : unsigned_abs p ≡ unsigned_abs times * unsigned_abs t.times = ap unsigned_abs e ∙ unsigned_abs-mul times t.times in
    omega arith
