-- The prices of a report as the first prices of a run.
use Rattle.std.specs.Prelude.{◌≡◌, ◌≢◌, ℕ, ℤ, ◌-◌, ◌≤ℤ◌, ◌<ℤ◌, List, Option, None, Some, length, take, All}
use Rattle.assign_core.specs.declared.numbers.TheConstants.{GREATEST_FIRST_PRICE}
use Rattle.assign_core.specs.Numbered.{IsNumber}
use Rattle.assign_core.specs.Prices.{price_of}
use Rattle.report.specs.declared.fault.StartFault.{StartFault}
use Rattle.report.specs.declared.fault.StartFault.TheVariants.{NoPrices, Length, Price}
use Rattle.report.specs.Reports.{Report, best, hall}

-- the prices of a report, if it has them
abbrev pub prices_in : Report → Option (List ℤ)
prices_in (best sense cost rows prices) = prices
prices_in (hall sense persons objects) = None

-- a run may begin at this price
abbrev pub IsFirstPrice : ℤ → Type 0
IsFirstPrice p = p ≤ℤ GREATEST_FIRST_PRICE

-- the price of object j is too great, and those of the objects before it aren't
pub record IsFirstTooGreat (prices : List ℤ) (j : ℕ) : Type 0 where
  pub number : IsNumber (length prices) j
  pub great : GREATEST_FIRST_PRICE <ℤ price_of prices j
  pub before : All IsFirstPrice (take (j - 1) prices)

-- the report has these prices, one for each of n objects, and none is too great
pub record IsStart (report : Report) (n : ℕ) (prices : List ℤ) : Type 0 where
  pub given : prices_in report ≡ Some prices
  pub long : length prices ≡ n
  pub low : All IsFirstPrice prices

-- why a run with n objects can't begin at the prices of a report
abbrev pub HasStartFault : Report → ℕ → StartFault → Type 0
HasStartFault report n NoPrices = prices_in report ≡ None
HasStartFault report n (Length found) =
    (prices : List ℤ) × (prices_in report ≡ Some prices) × (length prices ≡ found) × (found ≢ n)
HasStartFault report n (Price j) =
    (prices : List ℤ) × (prices_in report ≡ Some prices) × (length prices ≡ n)
    × IsFirstTooGreat prices j
