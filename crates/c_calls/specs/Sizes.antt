-- The sense and the size of what a caller gives.
use Rattle.std.specs.Prelude.{ℕ, zero, suc, Option, None, Some}
use Rattle.assign_core.specs.declared.sense.Sense.{Sense}
use Rattle.assign_core.specs.declared.sense.Sense.TheVariants.{Min, Max}
use Rattle.cost_lists.specs.ListedCosts.{IsCount}

-- the sense with this number
abbrev pub sense_of : ℕ → Option Sense
sense_of zero = Some Min
sense_of (suc zero) = Some Max
sense_of (suc (suc k)) = None

-- a problem may have n persons and m objects
pub record HasSize (n m : ℕ) : Type 0 where
  pub persons : IsCount n
  pub objects : IsCount m
