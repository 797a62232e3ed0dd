-- A pair that was read from lists.
use Rattle.std.specs.Prelude.{ℕ, ℤ, List}
use Rattle.assign_core.specs.declared.sense.Sense.{Sense}
use Rattle.assign_core.specs.Numbered.{IsNumber}
use Rattle.assign_core.specs.Rows.{IsCost, Listing}
use Rattle.block_checker.specs.Pairs.{IsGivenAt}

-- it is given among these rows and m objects, and its cost is in range
pub record IsRead (sense : Sense) (rows : List Listing) (n m i j : ℕ) (c : ℤ) : Type 0 where
  pub given : IsGivenAt sense rows i j c
  pub person : IsNumber n i
  pub object : IsNumber m j
  pub cost : IsCost c
