-- The objects of the first persons, marked.
use Rattle.std.proofs.Common.{◌≡◌, ◌≢◌, ℕ, ◌<◌, ◌+◌, ◌-◌, List, length, get_or, set, Bool, true, false}
use Rattle.std.proofs.Common.{nat_eq, inl, inr, arith, sym, ap, ◌∙◌, subst}
use Rattle.std.specs.List.{IsDistinct}
use Rattle.std.proofs.lemmas.Bool.Decides.{eqb_tells}
use Rattle.std.proofs.lemmas.List.{get_or_default}
use Rattle.std.proofs.lemmas.Map.Keys.{IsDistinct-from_apart}
use mathlib.Core.Bool.{true≢false}
use Rattle.assign_core.specs.Numbered.{IsMarked, IsNumber, numbered}
use Rattle.assign_core.proofs.NumberedLemmas.{low_or_same, numbered-index, numbered-next, numbered-same}
use Rattle.assign_core.proofs.NumberedLemmas.{numbered-other, renumber-set}
use Rattle.dual_checker.specs.Faults.{IsFirst, own_object}
use Rattle.double_checker.specs.Verdicts.{IsGivenBefore}
use Rattle.double_checker.specs.inside.Plans.{MarksJust}

abbrev pub AreApart : List ℕ → ℕ → Type 0
AreApart xs i = (h k : ℕ) → h < k → k < i → get_or xs h 0 ≢ get_or xs k 0

abbrev pub AreGiven : List Bool → List ℕ → ℕ → Type 0
AreGiven owned xs i = (j : ℕ) → IsMarked owned j → (h : ℕ) × (h < i) × (get_or xs h 0 ≡ j)

abbrev pub AreMarked : List Bool → List ℕ → ℕ → Type 0
AreMarked owned xs i = (h : ℕ) → h < i → IsMarked owned (get_or xs h 0)

object_of : (xs : List ℕ) (h : ℕ) → 0 < h → own_object xs h ≡ get_or xs (h - 1) 0
object_of xs h p = let e : h ≡ h - 1 + 1 = omega arith in ap (λ (i : ℕ). numbered xs i 0) e ∙ numbered-next xs (h - 1) 0

pub given_first : (xs : List ℕ) (owned : List Bool) (i : ℕ) → i < length xs →
    IsNumber (length owned) (get_or xs i 0) → get_or owned (get_or xs i 0 - 1) false ≡ true →
    AreApart xs i → AreGiven owned xs i → IsFirst (IsGivenBefore xs) (length xs) (i + 1)
given_first xs owned i lt n m apart given =
    let g = given (get_or xs i 0) (numbered-index owned (get_or xs i 0) false false n.first n.last ∙ m) in
    record {
      number = record { first = omega arith; last = omega arith };
      here = (
        g.0 + 1,
        omega arith,
        (let l = g.1 in omega arith),
        numbered-next xs g.0 0 ∙ g.2 ∙ sym (numbered-next xs i 0),
      );
      none_below = λ q p l b.
          apart (b.0 - 1) (q - 1) (let x = b.1 in let y = b.2 in omega arith) (omega arith)
          (sym (object_of xs b.0 b.1) ∙ b.3 ∙ object_of xs q p);
    }

-- a mark more
mark_same : (owned : List Bool) (x : ℕ) → IsNumber (length owned) x → IsMarked (set owned (x - 1) true) x
mark_same owned x n = ap (λ l. numbered l x false) (sym (renumber-set owned x true n.first))
    ∙ numbered-same owned x true false n.first n.last

mark_other : (owned : List Bool) (x j : ℕ) → IsNumber (length owned) x → j ≢ x →
    numbered (set owned (x - 1) true) j false ≡ numbered owned j false
mark_other owned x j n d = ap (λ l. numbered l j false) (sym (renumber-set owned x true n.first))
    ∙ numbered-other owned x j true false d

pub given_more : (xs : List ℕ) (owned : List Bool) (i : ℕ) → IsNumber (length owned) (get_or xs i 0) →
    AreGiven owned xs i → AreGiven (set owned (get_or xs i 0 - 1) true) xs (i + 1)
given_more xs owned i n given j m = elim (eqb_tells j (get_or xs i 0)) [
  | inl e ↦ (i, omega arith, sym e.1)
  | inr e ↦ let g = given j (sym (mark_other owned (get_or xs i 0) j n e.1) ∙ m) in
      (g.0, (let l = g.1 in omega arith), g.2)
]

pub marked_more : (xs : List ℕ) (owned : List Bool) (i : ℕ) → IsNumber (length owned) (get_or xs i 0) →
    AreMarked owned xs i → AreMarked (set owned (get_or xs i 0 - 1) true) xs (i + 1)
marked_more xs owned i n marked h lt = elim (eqb_tells (get_or xs h 0) (get_or xs i 0)) [
  | inl e ↦ subst (IsMarked (set owned (get_or xs i 0 - 1) true)) (sym e.1) (mark_same owned (get_or xs i 0) n)
  | inr e ↦ elim (low_or_same h i lt) [
    | inl l ↦ mark_other owned (get_or xs i 0) (get_or xs h 0) n e.1 ∙ marked h l
    | inr s ↦ absurd (e.1 (ap (λ (q : ℕ). get_or xs q 0) s))
  ]
]

pub apart_more : (xs : List ℕ) (owned : List Bool) (i : ℕ) → IsNumber (length owned) (get_or xs i 0) →
    get_or owned (get_or xs i 0 - 1) false ≡ false →
    AreApart xs i → AreMarked owned xs i → AreApart xs (i + 1)
apart_more xs owned i n f apart marked h k lt last e = elim (low_or_same k i last) [
  | inl l ↦ apart h k lt l e
  | inr s ↦
      let g : get_or xs h 0 ≡ get_or xs i 0 = e ∙ ap (λ (q : ℕ). get_or xs q 0) s in
      let m : IsMarked owned (get_or xs i 0) = subst (IsMarked owned) g (marked h (omega arith)) in
      absurd (true≢false (sym m ∙ numbered-index owned (get_or xs i 0) false false n.first n.last ∙ f))
]

differ : (a b : ℕ) → a ≢ b → nat_eq a b ≡ false
differ a b n = elim (eqb_tells a b) [ inl e ↦ absurd (n e.1) | inr e ↦ e.0 ]

pub apart_distinct : (xs : List ℕ) → AreApart xs (length xs) → IsDistinct nat_eq xs
apart_distinct xs apart =
    IsDistinct-from_apart nat_eq xs (λ h k z lt last.
    let first : h < length xs = omega arith in
    differ (get_or xs h z) (get_or xs k z)
    (λ e. apart h k lt last (get_or_default xs h 0 z first ∙ e ∙ get_or_default xs k z 0 last)))

pub marks_just : (xs : List ℕ) (owned : List Bool) → AreGiven owned xs (length xs) → AreMarked owned xs (length xs) →
    MarksJust owned xs
marks_just xs owned given marked j = (
  (λ m. let g = given j m in (g.0, g.1, get_or_default xs g.0 j 0 g.1 ∙ g.2)),
  (λ c. subst (IsMarked owned) (get_or_default xs c.0 0 j c.1 ∙ c.2) (marked c.0 c.1)),
)
