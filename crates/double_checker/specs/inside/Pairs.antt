-- Pairs of a person and an object at a cost, with the object's price.
use Rattle.std.specs.Prelude.{◌≡◌, ◌≢◌, ℕ, ℤ, ◌+ℤ◌, ◌≤ℤ◌, ◌<ℤ◌, ◌*◌, ◌<◌, ◌⊎◌, List, [], ◌∷◌, take, drop, length}
use Rattle.std.specs.Prelude.{false, IsTrue, slice_index_or}
use lib.Ieee.{Float, nan, neg}
use Rattle.assign_core.specs.declared.sense.Sense.{Sense}
use Rattle.assign_core.specs.declared.sense.Sense.TheVariants.{Min, Max}
use Rattle.cost_lists.specs.Own.{minimised}
use Rattle.double_costs.specs.Units.{is_number, units_of}
use Rattle.double_costs.specs.DoubleRows.{is_cost}
use Rattle.double_checker.specs.Far.{HasFar}
use Rattle.double_checker.specs.inside.Sizes.{size_of}

-- the cost as one to minimise
abbrev pub turned : Sense → Float → Float
turned Min cost = cost
turned Max cost = neg cost

-- the costs of the person at a place, from 0, of all costs of persons and m objects
abbrev pub row_part : ℕ → ℕ → List Float → List Float
row_part m i costs = take m (drop (i * m) costs)

-- the units of a turned cost and a price together
abbrev pub paid : Sense → Float → Float → ℤ
paid sense cost price = minimised sense (units_of cost) +ℤ units_of price

-- it is a cost, and where it is finite it is above a bound with its price
pub record IsAbove (sense : Sense) (bound : ℤ) (cost price : Float) : Type 0 where
  pub cost_is : IsTrue (is_cost sense cost)
  pub above : IsTrue (is_number cost) → bound <ℤ paid sense cost price

-- it is a cost, and where it is finite it is at least a bound with its price
pub record IsAtLeast (sense : Sense) (bound : ℤ) (cost price : Float) : Type 0 where
  pub cost_is : IsTrue (is_cost sense cost)
  pub least : IsTrue (is_number cost) → bound ≤ℤ paid sense cost price

-- a finite cost whose sum with its price isn't seen to be at least that of the own ones: it is less,
-- or sizes are far apart
pub record IsNotSeen (sense : Sense) (own_cost own_price cost price : Float) : Type 0 where
  pub finite : IsTrue (is_number cost)
  pub reason :
      (paid sense cost price <ℤ paid sense own_cost own_price)
      ⊎ HasFar (size_of own_cost ∷ size_of own_price ∷ size_of cost ∷ size_of price ∷ [])

-- it is no cost, or isn't seen
abbrev pub IsOpen : Sense → Float → Float → Float → Float → Type 0
IsOpen sense own_cost own_price cost price =
    (is_cost sense cost ≡ false) ⊎ IsNotSeen sense own_cost own_price cost price

-- the cost at a place, and what that object and the own one cost
abbrev pub at : List Float → ℕ → Float
at xs k = slice_index_or xs k nan

-- each of the first k costs of a row is at least the bound with its price
abbrev pub AreAtLeast : Sense → ℤ → List Float → List Float → ℕ → Type 0
AreAtLeast sense bound row prices k = (j : ℕ) → j < k → IsAtLeast sense bound (at row j) (at prices j)

-- each of the first k costs of a row but the own one is above the bound with its price
abbrev pub AreAbove : Sense → ℤ → List Float → List Float → ℕ → ℕ → Type 0
AreAbove sense bound row prices own k = (j : ℕ) → j < k → j ≢ own → IsAbove sense bound (at row j) (at prices j)

-- some cost of a row is open
abbrev pub HasOpen : Sense → List Float → List Float → ℕ → Type 0
HasOpen sense row prices own =
    (j : ℕ) × (j < length row) × IsOpen sense (at row own) (at prices own) (at row j) (at prices j)
