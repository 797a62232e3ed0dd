-- The content of a report, and the ranges of its numbers.
use Rattle.std.specs.Prelude.{◌≡◌, ℕ, ℤ, pos, negsuc, ◌*◌, ◌<◌, ◌≤◌, List, [], ◌∷◌, Option, None, Some, Bool, true}
use Rattle.std.specs.Prelude.{false, IsTrue, nat_lt, nat_le, ◌&&◌, length, nat_abs}
use Rattle.std.specs.List.{AllByRecursion}
use Rattle.assign_core.specs.declared.numbers.TheConstants.{MOST_PERSONS, GREATEST_COST, PRICE_END}
use Rattle.assign_core.specs.declared.sense.Sense.{Sense}
use Rattle.report.specs.declared.limits.TheConstants.{FIRST_GREATEST_COST, FIRST_PRICE_END}

-- An optimal assignment: the sense, the cost, each person's object and cost, and the prices, if
-- they are given. Or a Hall set: the sense, persons and objects. Version 1 of the format has no
-- sense.
pub data Report : Type 0 where
  best : Option Sense → ℤ → List (ℕ × ℤ) → Option (List ℤ) → Report
  hall : Option Sense → List ℕ → List ℕ → Report

-- the greatest absolute value of a pair's cost
abbrev pub cost_limit : Option Sense → ℕ
cost_limit None = nat_abs FIRST_GREATEST_COST
cost_limit (Some sense) = nat_abs GREATEST_COST

-- the greatest absolute value of the cost of all pairs
abbrev pub total_limit : Option Sense → ℕ
total_limit sense = MOST_PERSONS * cost_limit sense

-- prices are below this
abbrev pub price_end : Option Sense → ℕ
price_end None = nat_abs FIRST_PRICE_END
price_end (Some sense) = nat_abs PRICE_END

-- a cost that a pair may have
abbrev pub is_cost : Option Sense → ℤ → Bool
is_cost sense c = nat_le (nat_abs c) (cost_limit sense)

-- a cost that all pairs together may have
abbrev pub is_total : Option Sense → ℤ → Bool
is_total sense c = nat_le (nat_abs c) (total_limit sense)

-- at least 0, and below the end of prices
abbrev pub is_price : Option Sense → ℤ → Bool
is_price sense (pos p) = nat_lt p (price_end sense)
is_price sense (negsuc p) = false

-- an object and a cost that a pair may have
abbrev pub is_entry : Option Sense → ℕ × ℤ → Bool
is_entry sense e = nat_lt 0 e.0 && nat_le e.0 MOST_PERSONS && is_cost sense e.1

-- no prices, or one for each of n objects, in range
abbrev pub ArePrices : Option Sense → ℕ → Option (List ℤ) → Type 0
ArePrices sense n None = Unit {0}
ArePrices sense n (Some prices) =
    (length prices ≡ n) × AllByRecursion (λ p. IsTrue (is_price sense p)) prices

-- the numbers rise, the first is above this number, and none is above the most persons
abbrev pub is_rising : ℕ → List ℕ → Bool
is_rising last [] = true
is_rising last (x ∷ xs) = nat_lt last x && nat_le x MOST_PERSONS && is_rising x xs

-- the allowed content of a report on an optimal assignment
pub record IsBestReport (sense : Option Sense) (cost : ℤ) (rows : List (ℕ × ℤ)) (prices : Option (List ℤ)) : Type 0 where
  pub total : IsTrue (is_total sense cost)
  pub some : 0 < length rows
  pub few : length rows ≤ MOST_PERSONS
  pub each : AllByRecursion (λ e. IsTrue (is_entry sense e)) rows
  pub priced : ArePrices sense (length rows) prices

-- the allowed content of a report on a Hall set
pub record IsHallReport (persons objects : List ℕ) : Type 0 where
  pub some : 0 < length persons
  pub persons_rise : IsTrue (is_rising 0 persons)
  pub objects_rise : IsTrue (is_rising 0 objects)

-- the allowed content of a report
abbrev pub IsReport : Report → Type 0
IsReport (best sense cost rows prices) = IsBestReport sense cost rows prices
IsReport (hall sense persons objects) = IsHallReport persons objects
