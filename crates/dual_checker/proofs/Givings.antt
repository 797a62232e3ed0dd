-- How often a list has each number.
use Rattle.std.proofs.Common.{◌≡◌, ℕ, ◌≤◌, ◌+◌, List, [], ◌∷◌, nat_eq, cond, true, false, arith, inl, inr, refl, ◌∙◌, ap, ◌==◌, ◌≢◌, All}
use Rattle.std.specs.List.{IsDistinct, AllByRecursion, count_by}
use Rattle.std.proofs.lemmas.List.Elements.{All-head, All-tail}
use Rattle.std.proofs.lemmas.List.Sums.{sum_by-cons}
use Rattle.std.proofs.lemmas.Map.Keys.{IsDistinct-head, IsDistinct-tail, IsDistinct-cons}
use Rattle.std.proofs.lemmas.Bool.{cond-true, cond-false}
use Rattle.std.proofs.lemmas.Bool.Decides.{eqb_tells}

abbrev pub count_of : List ℕ → ℕ → ℕ
count_of xs j = count_by (λ x. x == j) xs

pub count-more : (x : ℕ) (xs : List ℕ) (j : ℕ) → nat_eq x j ≡ true → count_of (x ∷ xs) j ≡ 1 + count_of xs j
count-more x xs j e = sum_by-cons (λ y. cond (y == j) 1 0) x xs ∙ ap (λ n. n + count_of xs j) (cond-true (nat_eq x j) 1 0 e)

pub count-same : (x : ℕ) (xs : List ℕ) (j : ℕ) → nat_eq x j ≡ false → count_of (x ∷ xs) j ≡ count_of xs j
count-same x xs j e =
    let one : count_of (x ∷ xs) j ≡ 0 + count_of xs j = sum_by-cons (λ y. cond (y == j) 1 0) x xs ∙
    ap (λ n. n + count_of xs j) (cond-false (nat_eq x j) 1 0 e) in
    omega arith

absent : (xs : List ℕ) (j : ℕ) → count_of xs j ≡ 0 → AllByRecursion (λ y. nat_eq j y ≡ false) xs
absent [] j h = tt
absent (x ∷ xs) j h = elim (eqb_tells x j) [
  | inl t ↦ let m = count-more x xs j t.0 in absurd (omega arith)
  | inr t ↦ elim (eqb_tells j x) [
    | inl s ↦ absurd (t.1 (cc))
    | inr s ↦ let m = count-same x xs j t.0 in (s.0, absent xs j (omega arith))
  ]
]

none_of : (xs : List ℕ) (j : ℕ) → AllByRecursion (λ y. nat_eq j y ≡ false) xs → count_of xs j ≡ 0
none_of [] j h = refl
none_of (x ∷ xs) j h = elim (eqb_tells x j) [
  | inl t ↦ elim (eqb_tells j x) [
    | inl s ↦ let no = h.0 in cc
    | inr s ↦ absurd (s.1 (cc))
  ]
  | inr t ↦ count-same x xs j t.0 ∙ none_of xs j h.1
]

-- a number that is in a list once or not at all, element by element
pub distinct_from : (xs : List ℕ) → ((j : ℕ) → count_of xs j ≤ 1) → IsDistinct nat_eq xs
unfolding IsDistinct
distinct_from [] h = tt
distinct_from (x ∷ xs) h =
    let here : count_of xs x ≡ 0 = elim (eqb_tells x x) [ inl t ↦ (let m = count-more x xs x t.0 in let k = h x in omega arith) | inr t ↦ absurd (t.1 refl) ] in
    let rest : (j : ℕ) → count_of xs j ≤ 1 = λ j. elim (eqb_tells x j) [
      | inl t ↦ let m = count-more x xs j t.0 in let k = h j in omega arith
      | inr t ↦ let m = count-same x xs j t.0 in let k = h j in omega arith
    ] in
    IsDistinct-cons nat_eq x xs (absent xs x here) (distinct_from xs rest)

pub once_at_most : (xs : List ℕ) (j : ℕ) → IsDistinct nat_eq xs → count_of xs j ≤ 1
once_at_most [] j h = omega arith
once_at_most (x ∷ xs) j h = elim (eqb_tells x j) [
  | inl t ↦
      let m = count-more x xs j t.0 in
      let same : count_of xs j ≡ count_of xs x = ap (count_of xs) (cc) in
      let n = none_of xs x (IsDistinct-head nat_eq x xs h) in omega arith
  | inr t ↦ let m = count-same x xs j t.0 in let k = once_at_most xs j (IsDistinct-tail nat_eq x xs h) in omega arith
]

-- a number that isn't an element
pub nowhere : (xs : List ℕ) (j : ℕ) → All (λ x. x ≢ j) xs → count_of xs j ≡ 0
nowhere [] j h = refl
nowhere (x ∷ xs) j h = elim (eqb_tells x j) [
  | inl t ↦ absurd (All-head (λ y. y ≢ j) x xs h t.1)
  | inr t ↦ count-same x xs j t.0 ∙ nowhere xs j (All-tail (λ y. y ≢ j) x xs h)
]
