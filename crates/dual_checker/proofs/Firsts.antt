-- The lowest number that has a fault.
use Rattle.std.proofs.Common.{◌≡◌, ℕ, ◌<◌, ◌+◌, inl, inr, arith, subst}
use Rattle.std.proofs.lemmas.Bool.{cases_lt, cases_order}
use Rattle.assign_core.specs.Numbered.{IsNumber}
use Rattle.dual_checker.specs.Faults.{IsFirst}

pub first_at : (F : ℕ → Type 0) (n i : ℕ) → i < n → ((k : ℕ) → IsNumber i k → ¬ F k) → F (i + 1) → IsFirst F n (i + 1)
first_at F n i lt before here = record {
  number = record { first = omega arith; last = omega arith };
  here = here;
  none_below = λ k some below. before k (record { first = some; last = omega arith });
}

-- what holds of the numbers 1 to i, and of the next
pub one_more : (P : ℕ → Type 0) (i : ℕ) → ((k : ℕ) → IsNumber i k → P k) → P (i + 1) → (k : ℕ) → IsNumber (i + 1) k → P k
one_more P i before here k h = let some = h.first in let last = h.last in elim (cases_lt i k) [
  | inl above ↦ let e : i + 1 ≡ k = omega arith in subst P e here
  | inr upto ↦ before k (record { first = some; last = upto })
]

pub firsts_agree : (F : ℕ → Type 0) (n k l : ℕ) → IsFirst F n k → IsFirst F n l → k ≡ l
firsts_agree F n k l a b = elim (cases_order k l) [
  | inl e ↦ e
  | inr h ↦ elim h [
    | inl lt ↦ absurd (b.none_below k a.number.first lt a.here)
    | inr lt ↦ absurd (a.none_below l b.number.first lt b.here)
  ]
]
