-- What holds of each row of benefits.
use Rattle.std.proofs.Common.{ℕ, ℤ, ◌≤ℤ◌, zero, suc, List, [], ◌∷◌, ◌++◌, length, map, sym, subst}
use Rattle.std.specs.List.{All}
use Rattle.std.proofs.lemmas.List.Elements.{All-nil, All-cons, All-head, All-tail, All-map, All-weaker}
use Rattle.assign_core.specs.Numbered.{IsNumber}
use Rattle.assign_core.specs.Rows.{Listing, IsProblem, row_of}
use Rattle.assign_core.specs.Benefits.{benefit, IsBenefit}
use Rattle.assign_core.proofs.BenefitRows.{IsBenefit-benefit, row_of-benefits, IsRising-benefit_row, IsWithin-benefit_row}
use Rattle.assign_core.proofs.RowLemmas.{IsRow-row_of}
use Rattle.scaled_values.specs.Scaled.{ScaledProblem, benefits_of, values_in, least_benefit, greatest_benefit, IsBenefitRow, IsBetween}
use Rattle.scaled_values.proofs.BenefitRange.{least_bounds, greatest_bounds}

pub benefit_row_is : (s : ScaledProblem) (i : ℕ) → IsProblem s.problem → IsNumber (length s.problem) i →
    IsBenefitRow (length s.problem) (row_of (benefits_of s) i)
benefit_row_is s i h number =
    let n = length s.problem in
    let row = row_of s.problem i in
    let rule = IsRow-row_of n s.problem i h.each number.first number.last in
    subst (IsBenefitRow n) (sym (row_of-benefits s.sense n s.problem i)) (record {
      rising = IsRising-benefit_row s.sense n row rule.rising;
      within = IsWithin-benefit_row s.sense n n row rule.within;
      benefits = All-map (λ e. IsBenefit e.1) (λ e. (e.0, benefit s.sense n e.1)) row
          (All-weaker (λ e. _) (λ e. IsBenefit (benefit s.sense n e.1))
          (λ e k. IsBenefit-benefit s.sense n e.1 h.size k) row rule.costs);
    })

split_all : (P : ℤ → Type 0) (row : Listing) (xs : List ℤ) → All P (map (λ e. e.1) row ++ xs) → All (λ e. P e.1) row × All P xs
split_all P [] xs h = (All-nil (λ e. P e.1), h)
split_all P (e ∷ row) xs h =
    let i = split_all P row xs (All-tail P e.1 (map (λ f. f.1) row ++ xs) h) in
    (All-cons (λ f. P f.1) e row (All-head P e.1 (map (λ f. f.1) row ++ xs) h) i.0, i.1)

-- what holds of all values holds of those of row i
pub values_of_row : (P : ℤ → Type 0) (rows : List Listing) (i : ℕ) → All P (values_in rows) → All (λ e. P e.1) (row_of rows i)
values_of_row P rows zero h = All-nil (λ e. P e.1)
values_of_row P [] (suc k) h = All-nil (λ e. P e.1)
values_of_row P (row ∷ rows) (suc zero) h = (split_all P row (values_in rows) h).0
values_of_row P (row ∷ rows) (suc (suc k)) h = values_of_row P rows (suc k) (split_all P row (values_in rows) h).1

both : {X : Type 0} (P Q : X → Type 0) (xs : List X) → All P xs → All Q xs → All (λ x. P x × Q x) xs
both P Q xs h k = λ i d lt. (h i d lt, k i d lt)

pub benefits_between : (s : ScaledProblem) (i : ℕ) → IsBetween (least_benefit s) (greatest_benefit s) (row_of (benefits_of s) i)
benefits_between s i =
    values_of_row (λ x. (least_benefit s ≤ℤ x) × (x ≤ℤ greatest_benefit s)) (benefits_of s) i
    (both (λ x. least_benefit s ≤ℤ x) (λ x. x ≤ℤ greatest_benefit s) (values_in (benefits_of s))
    (least_bounds (values_in (benefits_of s))) (greatest_bounds (values_in (benefits_of s))))
