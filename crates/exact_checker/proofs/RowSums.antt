-- Sums of costs and prices in rows of costs.
use Rattle.std.proofs.Common.{◌≡◌, ℕ, ℤ, pos, ◌≤ℤ◌, ◌<ℤ◌, ◌<◌, ◌≤◌, ◌+◌, ◌-◌, ◌*◌, List, Some, IsSome, length, get_or, refl, arith, ap, sym, subst, ◌∙◌, inl, inr}
use Rattle.std.proofs.lemmas.Int.{ints}
use Rattle.assign_core.specs.declared.sense.Sense.{Sense}
use Rattle.assign_core.specs.Numbered.{IsNumber}
use Rattle.assign_core.specs.Rows.{listed_in, row_of}
use Rattle.assign_core.specs.Dense.{row_from, rows_cut}
use Rattle.assign_core.proofs.DenseRows.{length-rows_cut}
use Rattle.assign_core.proofs.Listed.{listing_within}
use Rattle.assign_core.proofs.NumberedLemmas.{low_or_same, numbered-index, numbered-next}
use Rattle.dual_checker.specs.Faults.{IsFirst}
use Rattle.cost_lists.specs.Own.{minimised}
use Rattle.cost_lists.specs.Source.{part_of}
use Rattle.cost_lists.proofs.CutRows.{cost_read, cut_row, listed_number, part_fits, part_long}
use Rattle.exact_checker.specs.inside.Sums.{sum_at}
use Rattle.exact_checker.specs.Under.{IsUnder}

-- no sum in the parts of the first i persons is below their values
abbrev pub NoneUnder : Sense → List ℤ → List ℤ → List ℤ → ℕ → Type 0
NoneUnder sense costs prices values i =
    (q j : ℕ) → q < i → j < length prices → get_or values q (pos 0) ≤ℤ sum_at sense (part_of (length prices) q costs) prices j

-- and of one more
pub none_more : (sense : Sense) (costs prices values : List ℤ) (i : ℕ) → NoneUnder sense costs prices values i →
    ((j : ℕ) → j < length prices → get_or values i (pos 0) ≤ℤ sum_at sense (part_of (length prices) i costs)
    prices j) → NoneUnder sense costs prices values (i + 1)
none_more sense costs prices values i before here q j lt room = elim (low_or_same q i lt) [
  | inl less ↦ before q j less room
  | inr same ↦ subst (λ p. get_or values p (pos 0) ≤ℤ sum_at sense (part_of (length prices) p costs) prices j) (sym same) (here j room)
]

some_same : {a b : ℤ} → Some a ≡ Some b → a ≡ b
some_same e = cc

module _ (sense : Sense) (costs prices values : List ℤ) (long : length costs ≡ length values * length prices) where
  -- a sum in a person's part that is below the value
  pub under_from : (i j : ℕ) → i < length values → j < length prices → sum_at sense (part_of (length prices) i costs) prices j <ℤ get_or values i (pos 0) →
      IsUnder sense (rows_cut (length prices) (length values) costs) prices values (i + 1) (j + 1)
  under_from i j lt room less =
      let n : ℕ = length values in
      let m : ℕ = length prices in
      let part = part_of m i costs in
      let whole = part_long m i costs (part_fits n m i costs long lt) in
      let number : IsNumber (length part) (j + 1) = record { first = omega arith; last = omega arith } in
      let back : j + 1 - 1 ≡ j = omega arith in
      let read = sym (cost_read part (j + 1) number) ∙ ap (λ k. Some (get_or part k (pos 0))) back in
      let price = numbered-next prices j (pos 0) in
      let value = numbered-next values i (pos 0) in
      record {
        cost = get_or part j (pos 0);
        listed = ap (λ r. listed_in r (j + 1)) (cut_row n m i costs lt) ∙ read;
        under = omega (arith, ints);
      }

  module _ (i k : ℕ) (u : IsUnder sense (rows_cut (length prices) (length values) costs) prices values i k) where
    person_in : IsNumber (length values) i
    person_in =
        let seen = subst (λ o. IsSome o) (sym u.listed) refl in
        subst (λ n. IsNumber n i) (length-rows_cut (length prices) (length values) costs)
        (listing_within (rows_cut (length prices) (length values) costs) i k seen)

    row_is : row_of (rows_cut (length prices) (length values) costs) i ≡ row_from 1 (part_of (length prices) (i - 1) costs)
    row_is =
        let first = person_in.first in
        let last = person_in.last in
        let e : i - 1 + 1 ≡ i = omega arith in
        ap (row_of (rows_cut (length prices) (length values) costs)) (sym e) ∙ cut_row (length values) (length prices) (i - 1) costs (omega arith)

    part_is : length (part_of (length prices) (i - 1) costs) ≡ length prices
    part_is =
        let first = person_in.first in
        let last = person_in.last in
        part_long (length prices) (i - 1) costs (part_fits (length values) (length prices) (i - 1) costs long (omega arith))

    object_in : IsNumber (length prices) k
    object_in =
        let there = sym (ap (λ r. listed_in r k) row_is) ∙ u.listed in
        subst (λ m. IsNumber m k) part_is (listed_number (part_of (length prices) (i - 1) costs) k (subst (λ o. IsSome o) (sym there) refl))

    -- and the other way
    under_to : sum_at sense (part_of (length prices) (i - 1) costs) prices (k - 1) <ℤ get_or values (i - 1) (pos 0)
    under_to =
        let part = part_of (length prices) (i - 1) costs in
        let number : IsNumber (length part) k = subst (λ m. IsNumber m k) (sym part_is) object_in in
        let there = sym (ap (λ r. listed_in r k) row_is) ∙ u.listed in
        let read : get_or part (k - 1) (pos 0) ≡ u.cost = some_same (cost_read part k number ∙ there) in
        let turned = ap (minimised sense) read in
        let price = numbered-index prices k (pos 0) (pos 0) object_in.first object_in.last in
        let value = numbered-index values i (pos 0) (pos 0) person_in.first person_in.last in
        let under = u.under in
        omega (arith, ints)

  not_under : (i p k : ℕ) → NoneUnder sense costs prices values i → p ≤ i → IsUnder sense (rows_cut (length prices) (length values) costs) prices values p k → ⊥
  not_under i p k none upto u =
      let person = person_in p k u in
      let object = object_in p k u in
      let first = person.first in
      let some = object.first in
      let last = object.last in
      let over = none (p - 1) (k - 1) (omega arith) (omega arith) in
      let below = under_to p k u in
      omega (arith, ints)

  pub none_under : (i : ℕ) → NoneUnder sense costs prices values i → length values ≤ i → (p k : ℕ) →
      ¬ IsUnder sense (rows_cut (length prices) (length values) costs) prices values p k
  none_under i none end p k u = let last = (person_in p k u).last in not_under i p k none (omega arith) u

  pub first_under_is : (i j : ℕ) → i < length values → j < length prices → NoneUnder sense costs prices values i →
      sum_at sense (part_of (length prices) i costs) prices j <ℤ get_or values i (pos 0) →
      ((q : ℕ) → q < j → get_or values i (pos 0) ≤ℤ sum_at sense (part_of (length prices) i costs) prices q) →
      IsFirst (λ p. (k : ℕ) × IsUnder sense (rows_cut (length prices) (length values) costs) prices values p k) (length values) (i + 1)
      × IsFirst (IsUnder sense (rows_cut (length prices) (length values) costs) prices values (i + 1)) (length prices) (j + 1)
  first_under_is i j lt room none less before =
      let here = under_from i j lt room less in (
        record {
          number = record { first = omega arith; last = omega arith };
          here = (j + 1, here);
          none_below = λ p some below x. not_under i p x.0 none (omega arith) x.1;
        },
        record {
          number = record { first = omega arith; last = omega arith };
          here = here;
          none_below = λ k some below x.
              let sum = under_to (i + 1) k x in
              let e : i + 1 - 1 ≡ i = omega arith in
              let over = before (k - 1) (omega arith) in
              let part = ap (λ q. sum_at sense (part_of (length prices) q costs) prices (k - 1)) e in
              let value = ap (λ q. get_or values q (pos 0)) e in
              omega (arith, ints);
        },
      )
