-- Benefits are in range, and so are the least, the greatest and the spread.
use Rattle.std.proofs.Common.{◌≡◌, ℕ, ℤ, pos, ◌≤ℤ◌, ◌⊎◌, inl, inr, List, [], ◌∷◌, length, map, refl, arith, sym, subst}
use Rattle.std.specs.List.{All, Contains}
use Rattle.std.proofs.lemmas.Int.{ints, fold-int_min_bounds, fold-int_min_reached, fold-int_max_bounds, fold-int_max_reached}
use Rattle.std.proofs.lemmas.List.Elements.{All-nil, All-cons, All-head, All-tail, All-append, All-map, All-weaker, All-contains}
use Rattle.assign_core.specs.declared.sense.Sense.{Sense}
use Rattle.assign_core.specs.Rows.{Listing, IsCost, IsRow, IsSize, IsProblem, HasCosts}
use Rattle.assign_core.specs.Benefits.{benefit, benefit_row, IsBenefit}
use Rattle.assign_core.proofs.BenefitRows.{IsBenefit-benefit}
use Rattle.assign_core.proofs.Members.{contains_first, contains_later}
use Rattle.scaled_values.specs.Scaled.{ScaledProblem, benefits_of, values_in, least_of, greatest_of, least_benefit}
use Rattle.scaled_values.specs.Scaled.{greatest_benefit, spread, IsLeastOf, IsGreatestOf}
use Rattle.scaled_values.specs.Limits.{most_spread}
use Rattle.scaled_values.specs.declared.row.StoredRow.{StoredRow}
use Rattle.scaled_values.specs.inside.Stored.{IsStored}

row_in_range : (sense : Sense) (n : ℕ) (row : Listing) → IsSize n → HasCosts row → All IsBenefit (map (λ e. e.1) (benefit_row sense n row))
row_in_range sense n row size h =
    All-map IsBenefit (λ e. e.1) (benefit_row sense n row)
    (All-map (λ e. IsBenefit e.1) (λ e. (e.0, benefit sense n e.1)) row (All-weaker (λ e. IsCost e.1)
    (λ e. IsBenefit (benefit sense n e.1)) (λ e k. IsBenefit-benefit sense n e.1 size k) row h))

rows_in_range : (sense : Sense) (n : ℕ) (rows : List Listing) → IsSize n → All (IsRow n) rows → All IsBenefit (values_in (map (benefit_row sense n) rows))
rows_in_range sense n [] size h = All-nil IsBenefit
rows_in_range sense n (row ∷ rows) size h =
    All-append IsBenefit (map (λ e. e.1) (benefit_row sense n row)) (values_in (map (benefit_row sense n) rows))
    (row_in_range sense n row size (All-head (IsRow n) row rows h).costs)
    (rows_in_range sense n rows size (All-tail (IsRow n) row rows h))

-- each benefit of a problem is in range
pub all_in_range : (s : ScaledProblem) → IsProblem s.problem → All IsBenefit (values_in (benefits_of s))
all_in_range s h = rows_in_range s.sense (length s.problem) s.problem h.size h.each

zero_in_range : IsBenefit (pos 0)
zero_in_range = record { least = omega (arith, ints); greatest = omega (arith, ints) }

-- no value is below the least
pub least_bounds : (xs : List ℤ) → All (λ x. least_of xs ≤ℤ x) xs
least_bounds [] = All-nil (λ x. least_of [] ≤ℤ x)
least_bounds (x ∷ xs) =
    let b = fold-int_min_bounds x xs (least_of (x ∷ xs)) refl in
    All-cons (λ y. least_of (x ∷ xs) ≤ℤ y) x xs b.0 b.1

pub greatest_bounds : (xs : List ℤ) → All (λ x. x ≤ℤ greatest_of xs) xs
greatest_bounds [] = All-nil (λ x. x ≤ℤ greatest_of [])
greatest_bounds (x ∷ xs) =
    let b = fold-int_max_bounds x xs (greatest_of (x ∷ xs)) refl in
    All-cons (λ y. y ≤ℤ greatest_of (x ∷ xs)) x xs b.0 b.1

pub least_holds : (P : ℤ → Type 0) (xs : List ℤ) → P (pos 0) → All P xs → P (least_of xs)
least_holds P [] none h = none
least_holds P (x ∷ xs) none h = elim (fold-int_min_reached x xs (least_of (x ∷ xs)) refl) [
  | inl e ↦ subst P (sym e) (All-head P x xs h)
  | inr k ↦ All-contains P xs (least_of (x ∷ xs)) (All-tail P x xs h) k
]

pub greatest_holds : (P : ℤ → Type 0) (xs : List ℤ) → P (pos 0) → All P xs → P (greatest_of xs)
greatest_holds P [] none h = none
greatest_holds P (x ∷ xs) none h = elim (fold-int_max_reached x xs (greatest_of (x ∷ xs)) refl) [
  | inl e ↦ subst P (sym e) (All-head P x xs h)
  | inr k ↦ All-contains P xs (greatest_of (x ∷ xs)) (All-tail P x xs h) k
]

least_held : (xs : List ℤ) → Contains xs (least_of xs) ⊎ ((xs ≡ []) × (least_of xs ≡ pos 0))
least_held [] = inr (refl, refl)
least_held (x ∷ xs) = elim (fold-int_min_reached x xs (least_of (x ∷ xs)) refl) [
  | inl e ↦ inl (subst (Contains (x ∷ xs)) (sym e) (contains_first x xs))
  | inr k ↦ inl (contains_later x xs (least_of (x ∷ xs)) k)
]

greatest_held : (xs : List ℤ) → Contains xs (greatest_of xs) ⊎ ((xs ≡ []) × (greatest_of xs ≡ pos 0))
greatest_held [] = inr (refl, refl)
greatest_held (x ∷ xs) = elim (fold-int_max_reached x xs (greatest_of (x ∷ xs)) refl) [
  | inl e ↦ inl (subst (Contains (x ∷ xs)) (sym e) (contains_first x xs))
  | inr k ↦ inl (contains_later x xs (greatest_of (x ∷ xs)) k)
]

pub least_is : (xs : List ℤ) → IsLeastOf xs (least_of xs)
least_is xs = record { bound = least_bounds xs; held = least_held xs }

pub greatest_is : (xs : List ℤ) → IsGreatestOf xs (greatest_of xs)
greatest_is xs = record { bound = greatest_bounds xs; held = greatest_held xs }

pub least-le-greatest : (xs : List ℤ) → least_of xs ≤ℤ greatest_of xs
least-le-greatest [] = omega (arith, ints)
least-le-greatest (x ∷ xs) =
    let low : least_of (x ∷ xs) ≤ℤ x = All-head (λ y. least_of (x ∷ xs) ≤ℤ y) x xs (least_bounds (x ∷ xs)) in
    let high : x ≤ℤ greatest_of (x ∷ xs) = All-head (λ y. y ≤ℤ greatest_of (x ∷ xs)) x xs (greatest_bounds (x ∷ xs)) in
    omega (arith, ints, low, high)

pub IsBenefit-least : (s : ScaledProblem) → IsProblem s.problem → IsBenefit (least_benefit s)
IsBenefit-least s h = least_holds IsBenefit (values_in (benefits_of s)) zero_in_range (all_in_range s h)

pub IsBenefit-greatest : (s : ScaledProblem) → IsProblem s.problem → IsBenefit (greatest_benefit s)
IsBenefit-greatest s h = greatest_holds IsBenefit (values_in (benefits_of s)) zero_in_range (all_in_range s h)

-- the bound of a spread
pub record IsSpread (d : ℤ) : Type 0 where
  pub least : pos 0 ≤ℤ d
  pub greatest : d ≤ℤ most_spread

pub IsSpread-spread : (s : ScaledProblem) → IsProblem s.problem → IsSpread (spread s)
IsSpread-spread s h =
    let low = IsBenefit-least s h in
    let high = IsBenefit-greatest s h in
    let order = least-le-greatest (values_in (benefits_of s)) in
    record { least = omega (arith, ints); greatest = omega (arith, ints) }

-- the stored range is in range
pub record IsKept (low high : ℤ) : Type 0 where
  pub least : IsBenefit low
  pub greatest : IsBenefit high
  pub order : low ≤ℤ high

pub kept : (s : ScaledProblem) (rows : List StoredRow) (low high : ℤ) → IsStored s rows low high → IsKept low high
kept s rows low high h =
    let order = least-le-greatest (values_in (benefits_of s)) in
    record {
      least = subst IsBenefit (sym h.least) (IsBenefit-least s h.problem);
      greatest = subst IsBenefit (sym h.greatest) (IsBenefit-greatest s h.problem);
      order = rw (h.least, h.greatest) order;
    }
