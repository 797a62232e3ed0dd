-- An optimal assignment among some.
use Rattle.std.specs.Prelude.{◌≡◌, ℕ, ◌≤◌, ◌⊎◌, List, Option, None, Some, MatchOption, length, take, nat_eq}
use Rattle.std.specs.List.{IsDistinct}
use Rattle.assign_core.specs.declared.sense.Sense.{Sense}
use Rattle.assign_core.specs.Rows.{Listing}
use Rattle.assign_core.specs.Assignment.{AreListed, IsAssignment, IsNoWorse, total}

-- the first persons have one listed object each, and no object is given twice
pub record IsFront (rows : List Listing) (front : List ℕ) : Type 0 where
  pub short : length front ≤ length rows
  pub listed : AreListed (take (length front) rows) front
  pub apart : IsDistinct nat_eq front

-- an assignment that gives the first persons these objects
pub record Begins (rows : List Listing) (front xs : List ℕ) : Type 0 where
  pub assigned : IsAssignment rows xs
  pub same : take (length front) xs ≡ front

-- one of the lists with property P, as good as any of them, or none if there is no list with this
-- property
abbrev pub IsBestIn : Sense → List Listing → (List ℕ → Type 0) → Option (List ℕ) → Type 0
IsBestIn sense rows P answer =
    MatchOption answer ((ys : List ℕ) → P ys → ⊥)
    (λ xs. P xs × ((ys : List ℕ) → P ys → IsNoWorse sense (total rows xs) (total rows ys)))

-- the third answer is one of the first two, and no worse than both
abbrev pub IsBetterOf : Sense → List Listing → Option (List ℕ) → Option (List ℕ) → Option (List ℕ) →
    Type 0
IsBetterOf sense rows None second result = result ≡ second
IsBetterOf sense rows (Some xs) None result = result ≡ Some xs
IsBetterOf sense rows (Some xs) (Some ys) result =
    ((result ≡ Some xs) × IsNoWorse sense (total rows xs) (total rows ys))
    ⊎ ((result ≡ Some ys) × IsNoWorse sense (total rows ys) (total rows xs))
