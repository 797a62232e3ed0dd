-- Marks of the persons found, and lists of the marked numbers.
use Rattle.std.proofs.Common.{◌≡◌, ℕ, ◌+◌, ◌-◌, ◌<◌, ◌↔◌, zero, suc, List, [], ◌∷◌, Bool, true, false, Less, length}
use Rattle.std.proofs.Common.{get_or, set, ap, arith, refl, sym, subst, ◌∙◌, inl, inr}
use Rattle.std.specs.List.{All, AllByRecursion, Contains}
use Rattle.std.specs.List.Sorted.{IsStrictlyIncreasing, IsStrictlySortedBy}
use Rattle.std.specs.Ordering.{nat_cmp}
use Rattle.std.proofs.lemmas.Bool.{cases_eq}
use Rattle.std.proofs.lemmas.Bool.Decides.{nat_tests}
use Rattle.std.proofs.lemmas.Map.Keys.{IsStrictlyIncreasing-from_sorted}
use Rattle.assign_core.specs.Numbered.{IsNumber, renumbered, IsMarked}
use Rattle.assign_core.proofs.Members.{contains_later}
use Rattle.assign_core.proofs.NumberedLemmas.{low_or_same, numbered-other, renumber-set}
use Rattle.hall_refuter.specs.declared.reach.Found.{Found}
use Rattle.hall_refuter.specs.inside.Found.{person_at, IsAmongFirst, marked_from}
use Rattle.hall_refuter.proofs.Marks.{marked_same, marked_kept}
use Rattle.hall_refuter.proofs.Growing.{person_read}

set_is : (marks : List Bool) (i j : ℕ) → i ≡ j - 1 → 0 < j → set marks i true ≡ renumbered marks j true
set_is marks i j e some = ap (λ q. set marks q true) e ∙ sym (renumber-set marks j true some)

one_marked : (found : List Found) (marks : List Bool) (h j x : ℕ) → person_at found h ≡ j →
    IsNumber (length marks) j → (IsMarked marks x ↔ IsAmongFirst found x h) → IsMarked (renumbered marks j true) x ↔
    IsAmongFirst found x (h + 1)
one_marked found marks h j x at number before = (
  (λ m. elim (cases_eq x j) [
    | inl e ↦ (h, omega arith, at ∙ sym e)
    | inr ne ↦ let was = before.0 (sym (numbered-other marks j x true false ne) ∙ m) in (was.0, (let lt = was.1 in omega arith), was.2)
  ]),
  (λ a. elim (low_or_same a.0 h a.1) [
    | inl less ↦ marked_kept marks j x number (before.1 (a.0, less, a.2))
    | inr same ↦
        let e : j ≡ x = sym at ∙ ap (person_at found) (sym same) ∙ a.2 in
        subst (IsMarked (renumbered marks j true)) e (marked_same marks j number)
  ]),
)

-- one more person is marked
pub marked_more : (found : List Found) (marks : List Bool) (n h i : ℕ) (f : Found) → i ≡ f.person - 1 →
    h < length found → f ≡ get_or found h f → All (λ g. IsNumber n g.person) found → length marks ≡ n →
    ((x : ℕ) → IsMarked marks x ↔ IsAmongFirst found x h) → (x : ℕ) → IsMarked (set marks i true) x ↔ IsAmongFirst found x (h + 1)
marked_more found marks n h i f e lt at within long before x =
    let w : IsNumber n f.person = subst (λ g. IsNumber n g.person) (sym at) (within h f lt) in
    rw (set_is marks i f.person e w.first) (one_marked found marks h f.person x (person_read found h f lt at)
    (subst (λ m. IsNumber m f.person) (sym long) w) (before x))

-- a marked number is in the list
listed_mark : (j : ℕ) (marks : List Bool) (i x : ℕ) → j + i ≡ x → get_or marks i false ≡ true → Contains (marked_from j marks) x
listed_mark j [] i x e m = absurd cc
listed_mark j (true ∷ marks) zero x e m = let at : j ≡ x = omega arith in (0, omega arith, at)
listed_mark j (false ∷ marks) zero x e m = absurd cc
listed_mark j (true ∷ marks) (suc i) x e m = contains_later j (marked_from (j + 1) marks) x (listed_mark (j + 1) marks i x (omega arith) m)
listed_mark j (false ∷ marks) (suc i) x e m = listed_mark (j + 1) marks i x (omega arith) m

-- a number of the list is marked
mark_listed : (j : ℕ) (marks : List Bool) (k x : ℕ) → k < length (marked_from j marks) →
    get_or (marked_from j marks) k x ≡ x → (i : ℕ) × (j + i ≡ x) × (get_or marks i false ≡ true)
mark_listed j [] k x lt at = absurd (omega arith)
mark_listed j (true ∷ marks) zero x lt at = (0, omega arith, refl)
mark_listed j (true ∷ marks) (suc k) x lt at = let r = mark_listed (j + 1) marks k x (omega arith) at in (suc r.0, (let e = r.1 in omega arith), r.2)
mark_listed j (false ∷ marks) k x lt at = let r = mark_listed (j + 1) marks k x lt at in (suc r.0, (let e = r.1 in omega arith), r.2)

-- just the marked numbers are in the list
pub marked_contains : (marks : List Bool) (x : ℕ) → Contains (marked_from 1 marks) x ↔ IsMarked marks x
marked_contains marks x = (to x, from x) where
  to : (y : ℕ) → Contains (marked_from 1 marks) y → IsMarked marks y
  to zero h = let r = mark_listed 1 marks h.0 0 h.1 h.2 in let e = r.1 in absurd (omega arith)
  to (suc k) h = let r = mark_listed 1 marks h.0 (suc k) h.1 h.2 in let e = r.1 in let same : r.0 ≡ k =
      omega arith in subst (λ q. get_or marks q false ≡ true) same r.2

  from : (y : ℕ) → IsMarked marks y → Contains (marked_from 1 marks) y
  from zero m = absurd cc
  from (suc k) m = listed_mark 1 marks k (suc k) (omega arith) m

all_above : (j k : ℕ) (marks : List Bool) → j < k → AllByRecursion (λ y. nat_cmp j y ≡ Less) (marked_from k marks)
all_above j k [] lt = tt
all_above j k (true ∷ marks) lt = (less j k lt, all_above j (k + 1) marks (omega arith)) where
  less : (a b : ℕ) → a < b → nat_cmp a b ≡ Less
  less a b h = grind (arith, nat_tests)
all_above j k (false ∷ marks) lt = all_above j (k + 1) marks (omega arith)

sorted_marks : (j : ℕ) (marks : List Bool) → IsStrictlySortedBy nat_cmp (marked_from j marks)
unfolding IsStrictlySortedBy
sorted_marks j [] = tt
sorted_marks j (true ∷ marks) = (all_above j (j + 1) marks (omega arith), sorted_marks (j + 1) marks)
sorted_marks j (false ∷ marks) = sorted_marks (j + 1) marks

pub marked_rise : (marks : List Bool) → IsStrictlyIncreasing (marked_from 1 marks)
marked_rise marks = IsStrictlyIncreasing-from_sorted (marked_from 1 marks) (sorted_marks 1 marks)

-- the list of the marked numbers has just the numbers that the marks say
pub listed_as : (P : ℕ → Type 0) (xs : List ℕ) (marks given : List Bool) → xs ≡ marked_from 1 given →
    given ≡ marks → ((x : ℕ) → IsMarked marks x ↔ P x) → (x : ℕ) → Contains xs x ↔ P x
listed_as P xs marks given e same h x =
    let at : xs ≡ marked_from 1 marks = e ∙ ap (marked_from 1) same in
    let c = marked_contains marks x in
    rw at ((λ k. (h x).0 (c.0 k)), (λ p. c.1 ((h x).1 p)))

pub rising_as : (xs : List ℕ) (marks : List Bool) → xs ≡ marked_from 1 marks → IsStrictlyIncreasing xs
rising_as xs marks e = subst IsStrictlyIncreasing (sym e) (marked_rise marks)
