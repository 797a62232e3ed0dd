-- The best two of a row at 64-bit prices, with an object of the second value.
use Rattle.std.specs.Prelude.{◌≢◌, ℤ, List, Some}
use Rattle.assign_core.specs.Rows.{Listing}
use Rattle.bidder.specs.declared.scan.BestTwo.{BestTwo}
use Rattle.bidder.specs.declared.near.Near.{Near}
use Rattle.bidder.specs.BestTwo.{IsValue, IsBestTwo}

abbrev pub two_of : Near → BestTwo
two_of near = record { object = near.object; best = near.best; second = Some near.second }

-- the best two, and another object of the second value
pub record IsNear (row : Listing) (narrow : List ℤ) (near : Near) : Type 0 where
  pub two : IsBestTwo row narrow (two_of near)
  pub apart : near.other ≢ near.object
  pub value : IsValue row narrow near.other near.second
