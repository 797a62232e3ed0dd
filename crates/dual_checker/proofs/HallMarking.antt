-- Marks that are added one after another.
use Rattle.std.proofs.Common.{◌≡◌, ℕ, ◌<◌, ◌+◌, ◌-◌, ◌↔◌, List, Bool, true, false, length, replicate, get_or, set, inl, inr, arith, ap, subst, sym, ◌∙◌, ◌≤◌}
use Rattle.std.specs.List.{Contains}
use Rattle.std.proofs.lemmas.List.{get_or_default}
use Rattle.std.proofs.lemmas.Bool.{cases_lt}
use Rattle.std.proofs.lemmas.Bool.Decides.{eqb_tells}
use Rattle.assign_core.specs.Numbered.{IsNumber, numbered, renumbered, IsMarked}
use Rattle.assign_core.proofs.NumberedLemmas.{numbered-same, numbered-other, numbered-replicate, renumber-set}
use Rattle.dual_checker.specs.HallMarks.{AddsMarks}

-- j is related by R to one of the first i places
abbrev pub Earlier : (ℕ → ℕ → Type 0) → ℕ → ℕ → Type 0
Earlier R i j = (k : ℕ) × (k < i) × R k j

pub adds_same : (P Q : ℕ → Type 0) (before after : List Bool) → ((j : ℕ) → P j ↔ Q j) → AddsMarks before P after → AddsMarks before Q after
adds_same P Q before after same h j = (
  (λ m. elim ((h j).0 m) [ inl b ↦ inl b | inr p ↦ inr ((same j).0 p) ]),
  (λ o. elim o [ inl b ↦ (h j).1 (inl b) | inr q ↦ (h j).1 (inr ((same j).1 q)) ]),
)

pub adds_more : (R : ℕ → ℕ → Type 0) (i : ℕ) (start marks after : List Bool) → AddsMarks start (Earlier R i) marks →
    AddsMarks marks (R i) after → AddsMarks start (Earlier R (i + 1)) after
adds_more R i start marks after h more j = (
  (λ m. elim ((more j).0 m) [
    | inl b ↦ elim ((h j).0 b) [ inl s ↦ inl s | inr e ↦ inr (e.0, (let lt = e.1 in omega arith), e.2) ]
    | inr r ↦ inr (i, omega arith, r)
  ]),
  (λ o. elim o [
    | inl s ↦ (more j).1 (inl ((h j).1 (inl s)))
    | inr e ↦ elim (cases_lt e.0 i) [
      | inl lt ↦ (more j).1 (inl ((h j).1 (inr (e.0, lt, e.2))))
      | inr upto ↦
          let below = e.1 in
          let same : e.0 ≡ i = omega arith in
          (more j).1 (inr (subst (λ k. R k j) same e.2))
    ]
  ]),
)

-- the effect of marking one number
pub adds_one : (marks : List Bool) (x : ℕ) → IsNumber (length marks) x → AddsMarks marks (λ j. x ≡ j) (renumbered marks x true)
adds_one marks x within j = (
  (λ m. elim (eqb_tells x j) [
    | inl t ↦ inr t.1
    | inr t ↦ inl (sym (numbered-other marks x j true false (λ s. t.1 (sym s))) ∙ m)
  ]),
  (λ o. elim (eqb_tells x j) [
    | inl t ↦ subst (IsMarked (renumbered marks x true)) t.1 (numbered-same marks x true false within.first within.last)
    | inr t ↦ elim o [ inl b ↦ numbered-other marks x j true false (λ s. t.1 (sym s)) ∙ b | inr e ↦ absurd (t.1 e) ]
  ]),
)

-- one more number
pub adds_item : (f : ℕ → ℕ) (i x k : ℕ) (start marks : List Bool) → x ≡ f i → IsNumber (length marks) x →
    k ≡ x - 1 → AddsMarks start (Earlier (λ k j. f k ≡ j) i) marks →
    AddsMarks start (Earlier (λ k j. f k ≡ j) (i + 1)) (set marks k true)
adds_item f i x k start marks at within place h =
    subst (AddsMarks start (Earlier (λ k j. f k ≡ j) (i + 1))) (renumber-set marks x true within.first ∙ ap (λ m. set marks m true) (sym place))
    (adds_more (λ k j. f k ≡ j) i start marks (renumbered marks x true) h
    (adds_same (λ j. x ≡ j) (λ j. f i ≡ j) marks (renumbered marks x true) (λ j. ((λ e. sym at ∙ e), (λ e. at ∙ e))) (adds_one marks x within)))

-- all numbers of a list
pub adds_all : (xs : List ℕ) (i : ℕ) (before after : List Bool) → length xs ≤ i → i ≤ length xs →
    AddsMarks before (Earlier (λ k j. get_or xs k 0 ≡ j) i) after → AddsMarks before (Contains xs) after
adds_all xs i before after end most h = adds_same (Earlier (λ k j. get_or xs k 0 ≡ j) i) (Contains xs) before after (λ j. (
  (λ e. let lt = e.1 in let inside : e.0 < length xs = omega arith in (e.0, inside, get_or_default xs e.0 j 0 inside ∙ e.2)),
  (λ c. let lt = c.1 in (c.0, omega arith, get_or_default xs c.0 0 j c.1 ∙ c.2)),
)) h

-- if no mark was set at first, the marked persons are those with property P
pub just_added : (m : ℕ) (before after : List Bool) (P : ℕ → Type 0) → before ≡ replicate m false → AddsMarks before P after → (j : ℕ) → IsMarked after j ↔ P j
just_added m before after P none h j = (
  (λ k. elim ((h j).0 k) [
    | inl b ↦ let no = ap (λ l. numbered l j false) none ∙ numbered-replicate m j false in absurd (false_not_true (sym no ∙ b))
    | inr p ↦ p
  ]),
  (λ p. (h j).1 (inr p)),
) where
  false_not_true : ◌≡◌ {A = Bool} false true → ⊥
  false_not_true e = cc
