-- Prices in the unit of costs, rounded down, and the sums of costs and these.
use Rattle.std.specs.Prelude.{◌≡◌, ℕ, ℤ, pos, neg_ℤ, ◌+◌, ◌+ℤ◌, ◌*ℤ◌, ◌≤ℤ◌, List, length, All}
use Rattle.assign_core.specs.Numbered.{IsNumber}
use Rattle.assign_core.specs.Prices.{price_of}
use Rattle.assign_core.specs.Rows.{Listing}
use Rattle.assign_core.specs.declared.sense.Sense.{Sense}
use Rattle.assign_core.specs.declared.sense.Sense.TheVariants.{Min, Max}
use Rattle.dual_checker.specs.declared.rounded.TheConstants.{MOST_ROUNDED}

-- from 0 to the greatest rounded price
pub record IsRounded (rounded : ℤ) : Type 0 where
  pub least : pos 0 ≤ℤ rounded
  pub greatest : rounded ≤ℤ MOST_ROUNDED

-- the prices of m objects, rounded down: none of them, times m + 1, is above the price
pub record AreRounded (rounded prices : List ℤ) : Type 0 where
  pub long : length rounded ≡ length prices
  pub each : All IsRounded rounded
  pub below : (k : ℕ) → IsNumber (length prices) k → (pos (length prices + 1) *ℤ price_of rounded k) ≤ℤ price_of prices k

-- the cost as one to minimise
abbrev pub minimised : Sense → ℤ → ℤ
minimised Min cost = cost
minimised Max cost = neg_ℤ cost

-- no entry of the row has a lesser sum of cost and rounded price
abbrev pub IsLeastSum : Sense → List ℤ → Listing → ℤ → Type 0
IsLeastSum sense rounded row least = All (λ e. least ≤ℤ (minimised sense e.1 +ℤ price_of rounded e.0)) row
