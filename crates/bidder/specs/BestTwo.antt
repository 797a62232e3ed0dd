-- The best object of a row under a table of prices, and the second value.
use Rattle.std.specs.Prelude.{◌≡◌, ◌≢◌, ℕ, ℤ, ◌+ℤ◌, ◌-ℤ◌, ◌≤ℤ◌, ◌≤◌, List, [], ◌∷◌, Option, None, Some, All, cond}
use Rattle.std.specs.Int.{int_max}
use Rattle.std.specs.Int.Signed.{lt_z}
use Rattle.assign_core.specs.Rows.{Listing, listed_in}
use Rattle.assign_core.specs.Prices.{price_of}
use Rattle.bidder.specs.declared.scan.BestTwo.{BestTwo}

-- object j is listed, and v is its value: its benefit less its price
abbrev pub IsValue : Listing → List ℤ → ℕ → ℤ → Type 0
IsValue row prices j v = listed_in row j ≡ Some (v +ℤ price_of prices j)

-- the greatest value among the listed objects other than j, or none if there are no others
abbrev pub IsSecond : Listing → List ℤ → ℕ → Option ℤ → Type 0
IsSecond row prices j None = All (λ e. e.0 ≡ j) row
IsSecond row prices j (Some w) =
    All (λ e. e.0 ≢ j → e.1 ≤ℤ (w +ℤ price_of prices e.0)) row
    × (k : ℕ) × (k ≢ j) × IsValue row prices k w

-- an object of the greatest value (the lowest number on a tie), and the second value
pub record IsBestTwo (row : Listing) (prices : List ℤ) (b : BestTwo) : Type 0 where
  pub listed : IsValue row prices b.object b.best
  pub greatest : All (λ e. e.1 ≤ℤ (b.best +ℤ price_of prices e.0)) row
  pub lowest : All (λ e. e.1 ≡ (b.best +ℤ price_of prices e.0) → b.object ≤ e.0) row
  pub others : IsSecond row prices b.object b.second

-- the greater of v and a value that may be absent
abbrev pub greater_of : ℤ → Option ℤ → ℤ
greater_of v None = v
greater_of v (Some w) = int_max v w

-- the best two of one object, of value v, and the objects above it
abbrev pub joined : ℕ → ℤ → Option BestTwo → BestTwo
joined j v None = record { object = j; best = v; second = None }
joined j v (Some b) = cond (lt_z v b.best)
    record { object = b.object; best = b.best; second = Some (greater_of v b.second) }
    record { object = j; best = v; second = Some b.best }

-- the best two of a row that rises by object, or none of an empty one
abbrev pub best_two : Listing → List ℤ → Option BestTwo
best_two [] prices = None
best_two (e ∷ row) prices = Some (joined e.0 (e.1 -ℤ price_of prices e.0) (best_two row prices))
