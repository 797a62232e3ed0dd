-- Assignments and their costs.
use Rattle.std.specs.Prelude.{ℕ, ℤ, pos, ◌+ℤ◌, ◌≤ℤ◌, List, [], ◌∷◌, IsSome, nat_eq}
use Rattle.std.specs.List.{AllZip, IsDistinct}
use Rattle.assign_core.specs.declared.sense.Sense.{Sense}
use Rattle.assign_core.specs.declared.sense.Sense.TheVariants.{Min, Max}
use Rattle.assign_core.specs.Rows.{Listing, listed_in, listed_or_zero}

-- each person has one object, which it lists
abbrev pub AreListed : List Listing → List ℕ → Type 0
AreListed rows xs = AllZip (λ row j. IsSome (listed_in row j)) rows xs

-- each person has one listed object, and no object is given twice
pub record IsAssignment (rows : List Listing) (xs : List ℕ) : Type 0 where
  pub listed : AreListed rows xs
  pub apart : IsDistinct nat_eq xs

-- the sum of the pairs' costs
abbrev pub total : List Listing → List ℕ → ℤ
total [] xs = pos 0
total (row ∷ rows) [] = pos 0
total (row ∷ rows) (j ∷ xs) = listed_or_zero row j +ℤ total rows xs

-- the first cost is as good as the second, or better
abbrev pub IsNoWorse : Sense → ℤ → ℤ → Type 0
IsNoWorse Min cost other = cost ≤ℤ other
IsNoWorse Max cost other = other ≤ℤ cost

-- under Min no assignment costs less, under Max none costs more
pub record IsBest (sense : Sense) (rows : List Listing) (xs : List ℕ) : Type 0 where
  pub assigned : IsAssignment rows xs
  pub best : (ys : List ℕ) → IsAssignment rows ys → IsNoWorse sense (total rows xs) (total rows ys)
