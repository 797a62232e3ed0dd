-- The lowest number of a rising list, or of a row, that has a fault.
use Rattle.std.proofs.Common.{◌≡◌, ℕ, ℤ, pos, ◌<◌, ◌≤◌, ◌↔◌, List, Bool, length, IsSome, get_or, inl, inr, arith, ap, sym, subst, refl, ◌∙◌}
use Rattle.std.specs.List.{All, Contains}
use Rattle.std.specs.List.Sorted.{IsStrictlyIncreasing}
use Rattle.std.proofs.lemmas.Bool.{cases_order}
use Rattle.std.proofs.lemmas.List.{get_or_default}
use Rattle.std.proofs.lemmas.Map.Keys.{below_from_sorted, sorted_from_strictly_increasing}
use Rattle.assign_core.specs.Numbered.{IsNumber, IsMarked}
use Rattle.assign_core.specs.Rows.{Listing, IsRow, IsRising, IsListed, listed_in, row_of}
use Rattle.assign_core.proofs.Listed.{all_listed, rising_listed}
use Rattle.dual_checker.specs.Faults.{IsFirst}
use Rattle.dual_checker.specs.HallVerdicts.{ListsUnnamed}
use Rattle.dual_checker.proofs.HallMarking.{Earlier}

pub first_same : (F G : ℕ → Type 0) (n m k : ℕ) → ((j : ℕ) → F j ↔ G j) → k ≤ m → IsFirst F n k → IsFirst G m k
first_same F G n m k same last f = record {
  number = record { first = f.number.first; last = last };
  here = (same k).0 f.here;
  none_below = λ i some below g. f.none_below i some below ((same i).1 g);
}

-- the first number of a rising list that has a fault is its lowest
pub first_named : (F : ℕ → Type 0) (xs : List ℕ) (n i x : ℕ) → IsStrictlyIncreasing xs → All (IsNumber n) xs → i < length xs → x ≡ get_or xs i x →
    ((k : ℕ) → k < i → ¬ F (get_or xs k 0)) → F x → IsFirst (λ j. Contains xs j × F j) n x
first_named F xs n i x rise within lt is before here =
    let zero : get_or xs i x ≡ get_or xs i 0 = get_or_default xs i x 0 lt in
    record {
      number = subst (IsNumber n) (sym is) (within i x lt);
      here = ((i, lt, sym is), here);
      none_below = λ k some below g.
          let at = g.0.2 in
          let inside = g.0.1 in
          let default : get_or xs g.0.0 k ≡ get_or xs g.0.0 0 = get_or_default xs g.0.0 k 0 inside in
          elim (cases_order g.0.0 i) [
            | inl e ↦ let same = ap (λ m. get_or xs m 0) e in absurd (omega arith)
            | inr h ↦ elim h [
              | inl low ↦ before g.0.0 low (subst F (sym at ∙ default) g.1)
              | inr high ↦ let up = below_from_sorted xs i g.0.0 0 (sorted_from_strictly_increasing xs rise) high inside in absurd (omega arith)
            ]
          ];
    }

-- an object is listed exactly where an entry of the row has it
pub row_places : (row : Listing) (i j : ℕ) → IsRising row → i ≡ length row → Earlier (λ k x. (get_or row k (0, pos 0)).0 ≡ x) i j ↔ IsSome (listed_in row j)
row_places row i j rising end =
    let P : ℕ × ℤ → Type 0 = λ e. Earlier (λ k x. (get_or row k (0, pos 0)).0 ≡ x) i e.0 in
    let each : All P row = λ k d lt. (k, omega arith, ap (λ e. e.0) (get_or_default row k (0, pos 0) d lt)) in (
      (λ h.
          let at = h.2 in
          let low = h.1 in
          let lt : h.0 < length row = omega arith in
          let found = rising_listed row h.0 (0, pos 0) rising lt in
          subst (λ x. IsSome (listed_in row x)) at (rw found refl)),
      (λ s. all_listed P row j each s),
    )

-- the first entry of a row whose object isn't marked has the row's lowest unmarked object
pub first_unmarked_entry : (rows : List Listing) (person n i : ℕ) (marks : List Bool) (row : Listing) (entry : ℕ ×
    ℤ) → row ≡ row_of rows person → IsRow n row → i < length row → entry ≡ get_or row i entry →
    ((k : ℕ) (e : ℕ × ℤ) → k < i → IsMarked marks (get_or row k e).0) → ¬ IsMarked marks entry.0 → IsFirst (ListsUnnamed rows (IsMarked marks) person) n entry.0
first_unmarked_entry rows person n i marks row entry this r lt is before not =
    let number : entry.0 ≡ (get_or row i entry).0 = ap (λ f. f.0) is in
    let range = r.within i entry lt in
    let found = ap (listed_in row) number ∙ rising_listed row i entry r.rising lt in
    let seen : IsSome (listed_in row entry.0) = rw found refl in
    let P : ℕ × ℤ → Type 0 = λ e. e.0 < entry.0 → IsMarked marks e.0 in
    let each : All P row = λ m f l. elim (cases_order m i) [
      | inl s ↦ λ low. let same = ap (λ q. (get_or row q f).0) s in let default = ap (λ q. q.0) (get_or_default row i f entry lt) in absurd (omega arith)
      | inr h ↦ elim h [
        | inl s ↦ λ low. before m f s
        | inr s ↦ λ low. let up = r.rising i m f s l in let default = ap (λ q. q.0) (get_or_default row i f entry lt) in absurd (omega arith)
      ]
    ] in
    record {
      number = subst (IsNumber n) (sym number) range;
      here = (subst (λ q. IsSome (listed_in q entry.0)) this seen, not);
      none_below = λ k some below g. g.1 (all_listed P row k each (subst (λ q. IsSome (listed_in q k)) (sym this) g.0) below);
    }

-- if each entry's object is marked, each listed object is
pub all_marked : (rows : List Listing) (person i : ℕ) (marks : List Bool) (row : Listing) →
    row ≡ row_of rows person → length row ≤ i → ((k : ℕ) (e : ℕ × ℤ) → k < i → IsMarked marks (get_or row k e).0) →
    (j : ℕ) → IsListed rows person j → IsMarked marks j
all_marked rows person i marks row this end before j s =
    let each : All (λ e. IsMarked marks e.0) row = λ k e lt. before k e (omega arith) in
    all_listed (λ e. IsMarked marks e.0) row j each (subst (λ q. IsSome (listed_in q j)) (sym this) s)
