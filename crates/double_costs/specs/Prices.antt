-- Assignments with exact prices of any size.
use Rattle.std.specs.Prelude.{◌≡◌, ◌≢◌, ℕ, ℤ, ◌+ℤ◌, ◌≤ℤ◌, ◌<ℤ◌, ◌⊎◌, List, Some, Contains}
use Rattle.std.specs.List.{AllZip}
use Rattle.assign_core.specs.declared.sense.Sense.{Sense}
use Rattle.assign_core.specs.declared.sense.Sense.TheVariants.{Min, Max}
use Rattle.assign_core.specs.Numbered.{IsNumber}
use Rattle.assign_core.specs.Rows.{Listing, listed_in, listed_or_zero}
use Rattle.assign_core.specs.Assignment.{IsAssignment, total}
use Rattle.assign_core.specs.Prices.{price_of}
use Rattle.cost_lists.specs.Exact.{AreChoices, with_price}

-- each of m objects is owned, or no object's price is below its own
abbrev pub AreLeastUnowned : ℕ → List ℤ → List ℕ → Type 0
AreLeastUnowned m prices xs =
    (j k : ℕ) → IsNumber m j → IsNumber m k → Contains xs j ⊎ (price_of prices j ≤ℤ price_of prices k)

-- an assignment and prices at which each person's own object is a choice of its row, and the unowned
-- objects have the least price
pub record IsPricedBest (sense : Sense) (m : ℕ) (rows : List Listing) (xs : List ℕ) (prices : List ℤ) : Type 0 where
  pub assigned : IsAssignment rows xs
  pub choices : AreChoices sense prices rows xs
  pub unowned : AreLeastUnowned m prices xs

-- the first cost is better than the second
abbrev pub IsBetter : Sense → ℤ → ℤ → Type 0
IsBetter Min cost other = cost <ℤ other
IsBetter Max cost other = other <ℤ cost

-- an assignment that is better than each other one: none is as good
pub record IsOnlyBest (sense : Sense) (rows : List Listing) (xs : List ℕ) : Type 0 where
  pub assigned : IsAssignment rows xs
  pub only : (ys : List ℕ) → IsAssignment rows ys → ys ≢ xs → IsBetter sense (total rows xs) (total rows ys)

-- the second cost is worse than the first by more than the margin
abbrev pub IsWorseBy : ℤ → Sense → ℤ → ℤ → Type 0
IsWorseBy margin Min cost other = (cost +ℤ margin) <ℤ other
IsWorseBy margin Max cost other = (other +ℤ margin) <ℤ cost

-- with prices, each other object of a row is worse than object j by more than the margin
abbrev pub IsChoiceBy : ℤ → Sense → List ℤ → Listing → ℕ → Type 0
IsChoiceBy margin sense prices row j =
    (k : ℕ) (c : ℤ) → k ≢ j → listed_in row k ≡ Some c →
    IsWorseBy margin sense (with_price sense prices j (listed_or_zero row j)) (with_price sense prices k c)

-- each person's own object is better than the others that it lists by more than the margin
abbrev pub AreChoicesBy : ℤ → Sense → List ℤ → List Listing → List ℕ → Type 0
AreChoicesBy margin sense prices rows xs = AllZip (IsChoiceBy margin sense prices) rows xs
