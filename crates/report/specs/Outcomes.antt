-- The report on an outcome of a problem.
use Rattle.std.specs.Prelude.{◌≡◌, ℕ, ℤ, List, [], ◌∷◌, Option, None, Some, Bool, true, false, length, All}
use Rattle.assign_core.specs.declared.sense.Sense.{Sense}
use Rattle.assign_core.specs.declared.outcome.Outcome.{Outcome}
use Rattle.assign_core.specs.declared.outcome.Outcome.TheVariants.{Best, Hall}
use Rattle.assign_core.specs.Rows.{Listing, listed_or_zero}
use Rattle.assign_core.specs.Assignment.{IsAssignment, total}
use Rattle.assign_core.specs.Hall.{IsHallSet}
use Rattle.assign_core.specs.Prices.{IsPrice}
use Rattle.report.specs.Reports.{Report, best, hall}

-- each person's object with the cost of the pair
abbrev pub pairs_of : List Listing → List ℕ → List (ℕ × ℤ)
pairs_of [] xs = []
pairs_of (row ∷ rows) [] = []
pairs_of (row ∷ rows) (j ∷ xs) = (j, listed_or_zero row j) ∷ pairs_of rows xs

-- the prices if they are requested
abbrev pub chosen_prices : Bool → List ℤ → Option (List ℤ)
chosen_prices true prices = Some prices
chosen_prices false prices = None

-- the report on an outcome, with its prices or without them
abbrev pub outcome_report : List Listing → Sense → Outcome → Bool → Report
outcome_report rows sense (Best c) prices =
    best (Some sense) (total rows c.assignment) (pairs_of rows c.assignment) (chosen_prices prices c.prices)
outcome_report rows sense (Hall h) prices = hall (Some sense) h.persons h.objects

-- an assignment of the problem with a price in range for each object, or a Hall set of it
abbrev pub IsOutcome : List Listing → Outcome → Type 0
IsOutcome rows (Best c) =
    IsAssignment rows c.assignment × (length c.prices ≡ length rows) × All IsPrice c.prices
IsOutcome rows (Hall h) = IsHallSet rows h.persons h.objects
