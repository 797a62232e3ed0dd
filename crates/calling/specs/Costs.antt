-- What is said of an optimal assignment's cost.
use Rattle.std.specs.Prelude.{◌≡◌, ℕ, ℤ, List}
use Rattle.assign_core.specs.declared.sense.Sense.TheVariants.{Min}
use Rattle.assign_core.specs.Assignment.{IsBest, total}
use Rattle.assign_core.specs.Rows.{Listing}

-- some assignment costs this, and none costs less
abbrev pub IsLeastCost : List Listing → ℤ → Type 0
IsLeastCost rows cost = (xs : List ℕ) × IsBest Min rows xs × (cost ≡ total rows xs)
