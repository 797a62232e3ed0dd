-- The only best assignment.
use Rattle.std.specs.Prelude.{◌≡◌, ℕ, List}
use Rattle.assign_core.specs.declared.sense.Sense.{Sense}
use Rattle.assign_core.specs.Rows.{Listing}
use Rattle.assign_core.specs.Assignment.{IsBest}

-- a best assignment, and there is no other
pub record IsOnlyBest (sense : Sense) (rows : List Listing) (xs : List ℕ) : Type 0 where
  pub best : IsBest sense rows xs
  pub only : (ys : List ℕ) → IsBest sense rows ys → ys ≡ xs
