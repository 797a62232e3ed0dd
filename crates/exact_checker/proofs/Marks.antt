-- Marks that are set by listed pairs, one after another, and marks of all numbers.
use Rattle.std.proofs.Common.{◌≡◌, ℕ, zero, suc, ◌<◌, ◌+◌, ◌-◌, ◌↔◌, List, Bool, true, false, length, get_or, set, arith, ap, sym, subst, ◌∙◌, inl, inr}
use Rattle.std.proofs.lemmas.Bool.{cases_lt, false≢true}
use Rattle.std.proofs.lemmas.List.{get_or_past}
use Rattle.assign_core.specs.Numbered.{IsNumber, IsMarked, numbered}
use Rattle.assign_core.proofs.NumberedLemmas.{low_or_same, numbered-index, renumber-set}
use Rattle.dual_checker.specs.HallMarks.{AddsMarks}
use Rattle.dual_checker.proofs.HallMarking.{adds_one, adds_same}

-- a number with a mark is in range
pub marked_range : (marks : List Bool) (j : ℕ) → IsMarked marks j → IsNumber (length marks) j
marked_range marks zero m = absurd (false≢true m)
marked_range marks (suc k) m = elim (cases_lt k (length marks)) [
  | inl lt ↦ record { first = omega arith; last = omega arith }
  | inr past ↦ absurd (false≢true (sym (get_or_past marks k false past) ∙ m))
]

-- the mark at a number's place
pub mark_read : (marks : List Bool) (j : ℕ) → IsNumber (length marks) j → numbered marks j false ≡ get_or marks (j - 1) false
mark_read marks j number = numbered-index marks j false false number.first number.last

-- where all places are marked, just the numbers are
pub all_marked : (marks : List Bool) → ((k : ℕ) → k < length marks → get_or marks k false ≡ true) → (j : ℕ) → IsMarked marks j ↔ IsNumber (length marks) j
all_marked marks h j = (
  (λ m. marked_range marks j m),
  (λ n. let first = n.first in let last = n.last in mark_read marks j n ∙ h (j - 1) (omega arith)),
)

-- j is the object of a fit pair among the first k
abbrev pub IsFit : List ℕ → (ℕ → Type 0) → ℕ → ℕ → Type 0
IsFit objects Fit k j = (q : ℕ) × (q < k) × Fit q × (get_or objects q 0 ≡ j)

module _ (objects : List ℕ) (Fit : ℕ → Type 0) (start : List Bool) where
  -- a pair that isn't fit
  pub fit_skip : (k : ℕ) (marks : List Bool) → ¬ Fit k → AddsMarks start (IsFit objects Fit k) marks → AddsMarks start (IsFit objects Fit (k + 1)) marks
  fit_skip k marks not h =
      adds_same (IsFit objects Fit k) (IsFit objects Fit (k + 1)) start marks (λ j. (
        (λ f. (f.0, (let lt = f.1 in omega arith), f.2, f.3)),
        (λ f. elim (low_or_same f.0 k f.1) [ inl less ↦ (f.0, less, f.2, f.3) | inr same ↦ absurd (not (subst Fit same f.2)) ]),
      )) h

  -- one that is
  pub fit_take : (k x : ℕ) (marks : List Bool) → Fit k → x ≡ get_or objects k 0 → IsNumber (length marks) x → AddsMarks start (IsFit objects Fit k) marks →
      AddsMarks start (IsFit objects Fit (k + 1)) (set marks (x - 1) true)
  fit_take k x marks fit at number h =
      subst (AddsMarks start (IsFit objects Fit (k + 1))) (renumber-set marks x true number.first) (λ j.
      let one = adds_one marks x number j in (
        (λ m. elim (one.0 m) [
          | inl was ↦ elim ((h j).0 was) [ inl s ↦ inl s | inr f ↦ inr (f.0, (let lt = f.1 in omega arith), f.2, f.3) ]
          | inr e ↦ inr (k, omega arith, fit, sym at ∙ e)
        ]),
        (λ o. elim o [
          | inl s ↦ one.1 (inl ((h j).1 (inl s)))
          | inr f ↦ elim (low_or_same f.0 k f.1) [
            | inl less ↦ one.1 (inl ((h j).1 (inr (f.0, less, f.2, f.3))))
            | inr same ↦ one.1 (inr (at ∙ ap (λ q. get_or objects q 0) (sym same) ∙ f.3))
          ]
        ]),
      ))
