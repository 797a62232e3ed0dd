-- Tables of prices.
use Rattle.std.specs.Prelude.{◌≡◌, ℕ, ℤ, pos, ◌≤ℤ◌, ◌<ℤ◌, ◌≤◌, List, length, All}
use Rattle.assign_core.specs.declared.numbers.TheConstants.{MOST_PERSONS, PRICE_END, NARROW_END}
use Rattle.assign_core.specs.Numbered.{numbered}

-- the price of object j
abbrev pub price_of : List ℤ → ℕ → ℤ
price_of prices j = numbered prices j (pos 0)

-- at least 0, and below the end of prices
pub record IsPrice (p : ℤ) : Type 0 where
  pub least : pos 0 ≤ℤ p
  pub below : p <ℤ PRICE_END

-- a table of prices, of at most as many objects as there may be persons
pub record IsTable (prices : List ℤ) : Type 0 where
  pub few : length prices ≤ MOST_PERSONS
  pub each : All IsPrice prices

-- the first table has as many prices as the second, and none is above the second's
pub record IsBelow (first second : List ℤ) : Type 0 where
  pub long : length first ≡ length second
  pub each : (j : ℕ) → price_of first j ≤ℤ price_of second j

-- from 0 to the end of narrow prices
pub record IsNarrow (p : ℤ) : Type 0 where
  pub least : pos 0 ≤ℤ p
  pub greatest : p ≤ℤ NARROW_END

-- 64-bit prices of the same objects, none above its own price
pub record IsNarrowed (narrow prices : List ℤ) : Type 0 where
  pub below : IsBelow narrow prices
  pub each : All IsNarrow narrow

-- a table with the 64-bit copies of its prices
pub record IsPair (prices narrow : List ℤ) : Type 0 where
  pub table : IsTable prices
  pub narrowed : IsNarrowed narrow prices
