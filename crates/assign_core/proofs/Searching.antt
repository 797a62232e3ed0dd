-- What a binary search for an object finds in a rising row.
use Rattle.std.proofs.Common.{◌≡◌, ℕ, ℤ, pos, ◌<◌, ◌≤◌, suc, [], ◌∷◌, None, Some, Result, Ok, Err, IfOk, IfErr}
use Rattle.std.proofs.Common.{length, get_or, refl, arith, sym, ap, ◌∙◌, inl, inr}
use Rattle.std.specs.List.Sorted.{IsSearchInRange, IsBinarySearchResult, IsNonDecreasingBy}
use Rattle.std.specs.Ordering.{nat_cmp, ordering_index}
use Rattle.std.proofs.lemmas.Bool.Decides.{eqb_tells, nat_tests}
use Rattle.std.proofs.lemmas.Bool.{cases_lt}
use Rattle.std.proofs.lemmas.Cmp.{ranked}
use Rattle.std.proofs.lemmas.List.Sorted.{IsNonDecreasingBy-from_default}
use Rattle.assign_core.specs.Rows.{Listing, listed_in, IsRising}
use Rattle.assign_core.proofs.Listed.{listed_later, rising_listed}

-- an object that no entry has isn't listed
not_listed : (row : Listing) (j : ℕ) → ((k : ℕ) → k < length row → (get_or row k (0, pos 0)).0 ≡ j → ⊥) → listed_in row j ≡ None
not_listed [] j other = refl
not_listed (e ∷ row) j other = elim (eqb_tells e.0 j) [
  | inl t ↦ absurd (other 0 (omega arith) t.1)
  | inr t ↦ listed_later e row j t.0 ∙ not_listed row j (λ k lt. other (suc k) (omega arith))
]

module _ (row : Listing) (rising : IsRising row) (j : ℕ) where
  -- the comparisons with the object rise along the row
  comparisons_rise : IsNonDecreasingBy (λ e. ordering_index (nat_cmp e.0 j)) row
  comparisons_rise = IsNonDecreasingBy-from_default (λ e. ordering_index (nat_cmp e.0 j)) row (0, pos 0) (λ i k le below.
      let object = λ (i : ℕ). (get_or row i (0, pos 0)).0 in
      let rise : object i ≤ object k = grind (arith, rising i k (0, pos 0), λ (same : i ≡ k). ap object same) in
      grind (arith, nat_tests))

  -- it ends at the object's entry, or nowhere where the object isn't listed
  pub searched : (r : Result ℕ ℕ) → IsSearchInRange r (length row) → IsBinarySearchResult (λ e. nat_cmp e.0 j) row r
      → record { found : IfOk r (λ at. (d : ℕ × ℤ) → listed_in row j ≡ Some (get_or row at d).1); absent : IfErr r (λ _. listed_in row j ≡ None) }
  searched (Ok at) below equal = record {
    found = λ d.
        let same : (get_or row at d).0 ≡ j = ranked _ j _ (sym (equal d)) in
        ap (listed_in row) (sym same) ∙ rising_listed row at d rising below;
    absent = tt;
  }
  searched (Err at) le parted = record {
    found = tt;
    absent = not_listed row j (λ k lt same. elim (cases_lt k at) [
      | inl before ↦ let less : (get_or row k (0, pos 0)).0 < j =
          ranked _ j _ (sym ((parted comparisons_rise).0 k (0, pos 0) (omega arith) before)) in absurd (omega arith)
      | inr after ↦ let more : j < (get_or row k (0, pos 0)).0 = ranked _ j _ (sym ((parted comparisons_rise).1 k (0, pos 0) after lt)) in absurd (omega arith)
    ]);
  }
