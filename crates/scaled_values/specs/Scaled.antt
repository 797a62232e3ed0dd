-- A problem with its benefits, the range of the benefits, and what follows from it: the slacknesses of the phases,
-- the floor and the top.
use Rattle.std.specs.Prelude.{◌≡◌, ℕ, zero, suc, ℤ, pos, ◌+ℤ◌, ◌-ℤ◌, ◌*ℤ◌, ◌≤ℤ◌, ◌-◌, ◌⊎◌, All, Contains, List, []}
use Rattle.std.specs.Prelude.{◌∷◌, ◌++◌, Option, None, Some, option_and_then, if◌then◌else◌, length, map, fold}
use Rattle.std.specs.Prelude.{int_div}
use Rattle.std.specs.Int.{int_max, int_min}
use Rattle.std.specs.Ordering.{int_eq}
use Rattle.assign_core.specs.declared.sense.Sense.{Sense}
use Rattle.assign_core.specs.Rows.{Listing, IsRising, IsWithin}
use Rattle.assign_core.specs.Benefits.{benefit_rows, IsBenefit}
use Rattle.scaled_values.specs.declared.phases.TheConstants.{EPS_DIVISOR}

-- a problem and a sense
pub record ScaledProblem : Type 0 where
  pub problem : List Listing
  pub sense : Sense

-- the rows of the persons, with benefits in place of costs
abbrev pub benefits_of : ScaledProblem → List Listing
benefits_of s = benefit_rows s.sense s.problem

-- the benefits of all listed pairs
abbrev pub values_in : List Listing → List ℤ
values_in [] = []
values_in (row ∷ rows) = map (λ e. e.1) row ++ values_in rows

-- the least of some numbers, or 0 of none
abbrev pub least_of : List ℤ → ℤ
least_of [] = pos 0
least_of (x ∷ xs) = fold int_min x xs

-- the greatest of some numbers, or 0 of none
abbrev pub greatest_of : List ℤ → ℤ
greatest_of [] = pos 0
greatest_of (x ∷ xs) = fold int_max x xs

-- the least benefit of a listed pair, or 0 if nothing is listed
abbrev pub least_benefit : ScaledProblem → ℤ
least_benefit s = least_of (values_in (benefits_of s))

-- the greatest benefit of a listed pair, or 0 if nothing is listed
abbrev pub greatest_benefit : ScaledProblem → ℤ
greatest_benefit s = greatest_of (values_in (benefits_of s))

-- the greatest benefit less the least
abbrev pub spread : ScaledProblem → ℤ
spread s = greatest_benefit s -ℤ least_benefit s

-- a fifth of a number that is at least 0 (`eps_divisor` says that it is a fifth), but at least 1
abbrev pub fifth : ℤ → ℤ
fifth z = int_max (pos 1) (int_div z EPS_DIVISOR)

-- the slackness of the first phase
abbrev pub first_eps : ScaledProblem → ℤ
first_eps s = fifth (spread s)

-- the slackness of the phase after one with this slackness; the phase with slackness 1 is the last
abbrev pub next_eps : ℤ → Option ℤ
next_eps eps = if int_eq eps (pos 1) then None else Some (fifth eps)

-- the slackness of the phase after the first k phases, if there is one
abbrev pub eps_after : ScaledProblem → ℕ → Option ℤ
eps_after s zero = Some (first_eps s)
eps_after s (suc k) = option_and_then next_eps (eps_after s k)

-- the slackness of some phase
pub record IsEps (s : ScaledProblem) (eps : ℤ) : Type 0 where
  pub phases : ℕ
  pub at : eps_after s phases ≡ Some eps

-- the floor of a phase that starts with greatest price p0: the least benefit less p0, and less n -
-- 1 times the sum of the spread and the slackness
abbrev pub floor_of : ScaledProblem → ℤ → ℤ → ℤ
floor_of s p0 eps = least_benefit s -ℤ p0 -ℤ (pos (length s.problem - 1) *ℤ (spread s +ℤ eps))

-- the top of this phase: p0 plus n times the sum of the spread and the slackness
abbrev pub top_of : ScaledProblem → ℤ → ℤ → ℤ
top_of s p0 eps = p0 +ℤ (pos (length s.problem) *ℤ (spread s +ℤ eps))

-- a row of benefits among n objects
pub record IsBenefitRow (n : ℕ) (row : Listing) : Type 0 where
  pub rising : IsRising row
  pub within : IsWithin n row
  pub benefits : All (λ e. IsBenefit e.1) row

-- no benefit of a row is below the least or above the greatest
abbrev pub IsBetween : ℤ → ℤ → Listing → Type 0
IsBetween low high row = All (λ e. (low ≤ℤ e.1) × (e.1 ≤ℤ high)) row

-- one of some numbers, with none below it, or 0 of none
pub record IsLeastOf (xs : List ℤ) (a : ℤ) : Type 0 where
  pub bound : All (λ x. a ≤ℤ x) xs
  pub held : Contains xs a ⊎ ((xs ≡ []) × (a ≡ pos 0))

-- one of some numbers, with none above it, or 0 of none
pub record IsGreatestOf (xs : List ℤ) (a : ℤ) : Type 0 where
  pub bound : All (λ x. x ≤ℤ a) xs
  pub held : Contains xs a ⊎ ((xs ≡ []) × (a ≡ pos 0))
