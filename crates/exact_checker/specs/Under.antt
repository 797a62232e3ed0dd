-- Listed objects whose sum of turned cost and price is below a person's value.
use Rattle.std.specs.Prelude.{◌≡◌, ℕ, ℤ, pos, ◌+ℤ◌, ◌<ℤ◌, List, Some}
use Rattle.assign_core.specs.declared.sense.Sense.{Sense}
use Rattle.assign_core.specs.Numbered.{numbered}
use Rattle.assign_core.specs.Rows.{Listing, listed_in, row_of}
use Rattle.assign_core.specs.Prices.{price_of}
use Rattle.cost_lists.specs.Own.{minimised}

-- person i lists object k at a cost whose sum with the price is below the person's value
pub record IsUnder (sense : Sense) (rows : List Listing) (prices values : List ℤ) (i k : ℕ) : Type 0 where
  pub cost : ℤ
  pub listed : listed_in (row_of rows i) k ≡ Some cost
  pub under : (minimised sense cost +ℤ price_of prices k) <ℤ numbered values i (pos 0)

-- some object is under the value of person i
abbrev pub HasUnder : Sense → List Listing → List ℤ → List ℤ → ℕ → Type 0
HasUnder sense rows prices values i = (k : ℕ) × IsUnder sense rows prices values i k
