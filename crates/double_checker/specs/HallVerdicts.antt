-- The meaning of each verdict on a Hall set over costs in doubles.
use Rattle.std.specs.Prelude.{◌≡◌, ℕ, ◌*◌, List, length}
use lib.Ieee.{Float}
use Rattle.assign_core.specs.declared.sense.Sense.{Sense}
use Rattle.assign_core.specs.Hall.{IsHallSet}
use Rattle.double_costs.specs.DoubleRows.{IsFirstFault, rows_of_doubles}
use Rattle.double_checker.specs.Verdicts.{AreCosts}
use Rattle.double_checker.specs.declared.hall.HallVerdict.{HallVerdict}
use Rattle.double_checker.specs.declared.hall.HallVerdict.TheVariants.{Length, Cost, Not, Hall}

-- n * m costs
pub record AreManyCosts (sense : Sense) (n m : ℕ) (costs : List Float) : Type 0 where
  pub long : length costs ≡ n * m
  pub costs_are : AreCosts sense costs

-- the first fault, or whether the lists are a Hall set of the pairs that aren't forbidden
abbrev pub IsHallVerdict : Sense → ℕ → ℕ → List Float → List ℕ → List ℕ → HallVerdict → Type 0
IsHallVerdict sense n m costs persons objects Length = ¬ (length costs ≡ n * m)
IsHallVerdict sense n m costs persons objects (Cost k) = (length costs ≡ n * m) × IsFirstFault sense costs k
IsHallVerdict sense n m costs persons objects Not =
    AreManyCosts sense n m costs × ¬ IsHallSet (rows_of_doubles m n costs) persons objects
IsHallVerdict sense n m costs persons objects Hall =
    AreManyCosts sense n m costs × IsHallSet (rows_of_doubles m n costs) persons objects
