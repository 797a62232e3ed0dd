-- Sums of turned costs and prices.
use Rattle.std.specs.Prelude.{◌≡◌, ℕ, ℤ, pos, ◌+ℤ◌, ◌≤ℤ◌, ◌<ℤ◌, List, Some, slice_index_or}
use Rattle.assign_core.specs.declared.sense.Sense.{Sense}
use Rattle.assign_core.specs.declared.numbers.TheConstants.{GREATEST_COST}
use Rattle.assign_core.specs.Numbered.{numbered}
use Rattle.assign_core.specs.Rows.{Listing, listed_in, row_of}
use Rattle.assign_core.specs.Prices.{price_of}
use Rattle.cost_lists.specs.declared.numbers.TheConstants.{GREATEST_PRICE}
use Rattle.cost_lists.specs.Own.{minimised}

-- the sum of a turned cost and its object's price, by the object's place
abbrev pub sum_at : Sense → List ℤ → List ℤ → ℕ → ℤ
sum_at sense costs prices j = minimised sense (slice_index_or costs j (pos 0)) +ℤ slice_index_or prices j (pos 0)

-- the sum of a cost and a price
pub record IsSum (v : ℤ) : Type 0 where
  pub least : (pos 0) ≤ℤ (v +ℤ GREATEST_COST)
  pub greatest : v ≤ℤ (GREATEST_PRICE +ℤ GREATEST_COST)
