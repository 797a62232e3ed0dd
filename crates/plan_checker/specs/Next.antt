-- Assignments other than a best one.
use Rattle.std.specs.Prelude.{◌≡◌, ◌≢◌, ℕ, ℤ, ◌-ℤ◌, ◌≤ℤ◌, List}
use Rattle.assign_core.specs.declared.sense.Sense.{Sense}
use Rattle.assign_core.specs.Rows.{Listing}
use Rattle.assign_core.specs.Assignment.{IsAssignment, IsBest, total}
use Rattle.cost_lists.specs.Own.{minimised}

-- how much more the second assignment costs than the first; under Max, how much less
abbrev pub excess : Sense → List Listing → List ℕ → List ℕ → ℤ
excess sense rows xs ys = minimised sense (total rows ys) -ℤ minimised sense (total rows xs)

-- a best assignment, and each other one costs at least so much more
pub record IsBestBy (sense : Sense) (rows : List Listing) (xs : List ℕ) (margin : ℤ) : Type 0 where
  pub best : IsBest sense rows xs
  pub others : (ys : List ℕ) → IsAssignment rows ys → ys ≢ xs → margin ≤ℤ excess sense rows xs ys

-- after a best assignment a next best one: it is another one, which costs so much more, and each other one
-- costs at least as much
pub record IsNextBest (sense : Sense) (rows : List Listing) (xs ys : List ℕ) (margin : ℤ) : Type 0 where
  pub assigned : IsAssignment rows ys
  pub other : ys ≢ xs
  pub more : excess sense rows xs ys ≡ margin
  pub least : IsBestBy sense rows xs margin

-- an assignment, and there is no other
pub record IsOnlyAssignment (rows : List Listing) (xs : List ℕ) : Type 0 where
  pub assigned : IsAssignment rows xs
  pub only : (ys : List ℕ) → IsAssignment rows ys → ys ≡ xs
