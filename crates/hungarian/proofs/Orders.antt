-- The scanned persons are different, so that they are at most all persons.
use Rattle.std.proofs.Common.{◌≡◌, ◌≢◌, ℕ, zero, suc, ◌+◌, ◌<◌, ◌≤◌, List, [], ◌∷◌, ◌++◌, length, get_or, nat_eq, false, ap, arith, refl, sym, subst, ◌∙◌, inl, inr}
use Rattle.std.specs.List.{Contains, IsDistinct}
use Rattle.std.proofs.lemmas.Bool.{cases_lt}
use Rattle.std.proofs.lemmas.Bool.Decides.{eqb_tells}
use Rattle.std.proofs.lemmas.List.{get_or_append_left, get_or_push, get_or_default, length_push}
use Rattle.std.proofs.lemmas.Map.Keys.{IsDistinct-from_apart}
use Rattle.assign_core.proofs.HallSets.{few_among}
use Rattle.hungarian.specs.inside.Plans.{at}
use Rattle.hungarian.specs.inside.Trees.{IsOrder}

differ : (a b : ℕ) → a ≢ b → nat_eq a b ≡ false
differ a b ne = elim (eqb_tells a b) [ inl e ↦ absurd (ne e.1) | inr e ↦ e.0 ]

-- the numbers from k down to 1
numbers_to : ℕ → List ℕ
numbers_to zero = []
numbers_to (suc k) = suc k ∷ numbers_to k

length-numbers_to : (n : ℕ) → length (numbers_to n) ≡ n
unfolding numbers_to
length-numbers_to zero = refl
length-numbers_to (suc k) = let h = length-numbers_to k in omega arith

has_number : (n j : ℕ) → 0 < j → j ≤ n → Contains (numbers_to n) j
unfolding numbers_to
has_number zero j some last = absurd (omega arith)
has_number (suc k) j some last = elim (cases_lt j (suc k)) [
  | inl less ↦ let h = has_number k j some (omega arith) in (suc h.0, (let z = h.1 in omega arith), h.2)
  | inr past ↦ let e : suc k ≡ j = omega arith in (0, omega arith, e)
]

-- different persons from 1 to n are at most n
pub too_many : (n : ℕ) (x r : ℕ → ℕ) (t : ℕ) (persons : List ℕ) → IsOrder n x r t persons → t < n
too_many n x r t persons o =
    let long = o.long in
    let distinct : IsDistinct nat_eq persons = IsDistinct-from_apart nat_eq persons (λ i k z lt last.
    let a = get_or_default persons i z 0 (omega arith) in
    let b = get_or_default persons k z 0 last in
    rw (a, b) (differ (get_or persons i 0) (get_or persons k 0) (λ e.
    let q : i ≡ k = sym (o.ranked i (omega arith)) ∙ ap (λ y. r (x y)) e ∙ o.ranked k (omega arith) in omega arith))) in
    let few = few_among persons (numbers_to n) distinct (λ y h.
    let lt = h.1 in
    let is : get_or persons h.0 0 ≡ y = get_or_default persons h.0 0 y lt ∙ h.2 in
    subst (Contains (numbers_to n)) is
    (has_number n (get_or persons h.0 0) (o.some h.0 (omega arith)) (o.within h.0 (omega arith)))) in
    let e = length-numbers_to n in omega arith

-- one more person, whose object has the next rank
pub order_grows : (n : ℕ) (x r r2 : ℕ → ℕ) (t i j : ℕ) (persons : List ℕ) → IsOrder n x r t persons → 0 < i → i ≤ n →
    x i ≡ j →
    r2 j ≡ t + 1 → ((k : ℕ) → k ≢ j → r2 k ≡ r k) → r j ≡ 0 → 0 < j → IsOrder n x r2 (t + 1) (persons ++ i ∷ [])
order_grows n x r r2 t i j persons o some last has rank ranks unscanned positive =
    let long = o.long in
    record {
      long = let a = length_push persons i in omega arith;
      alone = ap x (old 0 (omega arith)) ∙ o.alone;
      some = λ q h. elim (cases_lt q (t + 1)) [
        | inl less ↦ let e = old q less in let z = o.some q (omega arith) in omega arith
        | inr past ↦ let e = new q h past in omega arith
      ];
      within = λ q h. elim (cases_lt q (t + 1)) [
        | inl less ↦ let e = old q less in let z = o.within q (omega arith) in omega arith
        | inr past ↦ let e = new q h past in omega arith
      ];
      ranked = λ q h. elim (cases_lt q (t + 1)) [
        | inl less ↦
            let z = o.ranked q (omega arith) in
            ap (λ y. r2 (x y)) (old q less) ∙ ranks (x (at persons q)) (apart q less) ∙ z
        | inr past ↦ ap (λ y. r2 (x y)) (new q h past) ∙ ap r2 has ∙ rank ∙ (let e : t + 1 ≡ q = omega arith in e)
      ];
    } where
      old : (q : ℕ) → q < t + 1 → at (persons ++ i ∷ []) q ≡ at persons q
      old q less = get_or_append_left persons (i ∷ []) 0 q (let e = o.long in omega arith)

      new : (q : ℕ) → q ≤ t + 1 → t + 1 ≤ q → at (persons ++ i ∷ []) q ≡ i
      new q h past = get_or_push persons i 0 q (let e = o.long in omega arith)

      apart : (q : ℕ) → q < t + 1 → x (at persons q) ≢ j
      apart zero less same = let z = o.alone in omega arith
      apart (suc k) less same =
          let z = o.ranked (suc k) (omega arith) in
          let e : r (x (at persons (suc k))) ≡ 0 = ap r same ∙ unscanned in omega arith

-- the first person alone
pub order_begins : (n : ℕ) (x r : ℕ → ℕ) (s : ℕ) → 0 < s → s ≤ n → x s ≡ 0 → r (x s) ≡ 0 → IsOrder n x r 0 (s ∷ [])
order_begins n x r s some last alone rank = record {
  long = refl;
  alone = alone;
  some = λ q h. let e : q ≡ 0 = omega arith in subst (λ y. 0 < at (s ∷ []) y) (sym e) some;
  within = λ q h. let e : q ≡ 0 = omega arith in subst (λ y. at (s ∷ []) y ≤ n) (sym e) last;
  ranked = λ q h. let e : q ≡ 0 = omega arith in subst (λ y. r (x (at (s ∷ []) y)) ≡ y) (sym e) rank;
}
