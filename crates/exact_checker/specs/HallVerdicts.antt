-- The meaning of each verdict on a list of persons and a list of objects.
use Rattle.std.specs.Prelude.{◌≡◌, ⊤, ℕ, ◌≤◌, List, length, Contains}
use Rattle.assign_core.specs.Hall.{IsHallSet}
use Rattle.dual_checker.specs.Faults.{IsFirst}
use Rattle.dual_checker.specs.HallVerdicts.{AreInRange, AreNeighbours, AreRising, HasNeighbours, IsExtra, Lacks, ListsUnnamed}
use Rattle.cost_lists.specs.ListedCosts.{ListedCosts, AreInLimits}
use Rattle.exact_checker.specs.declared.hall_verdict.HallVerdict.{HallVerdict}
use Rattle.exact_checker.specs.declared.hall_verdict.HallVerdict.TheVariants.{Range, Order, Missing, Extra, Count, Yes}

-- both lists rise, and their numbers are those of persons and of objects
pub record AreRisingNumbers (l : ListedCosts) (persons objects : List ℕ) : Type 0 where
  pub in_range : AreInRange l.m l.rows persons objects
  pub rising : AreRising persons objects

-- the first fault in the order of the variants, by the lowest number that has it, or Yes if there is
-- none
abbrev pub IsHallVerdict : ListedCosts → List ℕ → List ℕ → HallVerdict → Type 0
IsHallVerdict l persons objects Range = ¬ AreInRange l.m l.rows persons objects
IsHallVerdict l persons objects Order = AreInRange l.m l.rows persons objects × ¬ AreRising persons objects
IsHallVerdict l persons objects (Missing i j) =
    AreRisingNumbers l persons objects
    × IsFirst (Lacks l.rows persons (Contains objects)) (length l.rows) i × IsFirst (ListsUnnamed l.rows (Contains objects) i) l.m j
IsHallVerdict l persons objects (Extra j) =
    AreRisingNumbers l persons objects × HasNeighbours l.rows persons (Contains objects) × IsFirst (IsExtra l.rows persons objects) l.m j
IsHallVerdict l persons objects Count =
    AreRisingNumbers l persons objects × AreNeighbours l.rows persons objects × (length persons ≤ length objects)
IsHallVerdict l persons objects Yes = IsHallSet l.rows persons objects

-- at most one verdict holds of costs and two lists
abbrev pub HallVerdictsDiffer : Type 0
HallVerdictsDiffer = (l : ListedCosts) (persons objects : List ℕ) (v w : HallVerdict) → AreInLimits l →
    IsHallVerdict l persons objects v → IsHallVerdict l persons objects w → v ≡ w

-- the verdicts before which it was seen that no named person lists an unnamed object
abbrev pub IsClosed : HallVerdict → Type 0
IsClosed (Extra j) = ⊤
IsClosed Count = ⊤
IsClosed Yes = ⊤
IsClosed v = ⊥

-- they show it
abbrev pub ClosedVerdictsShow : Type 0
ClosedVerdictsShow = (l : ListedCosts) (persons objects : List ℕ) (v : HallVerdict) → IsClosed v →
    IsHallVerdict l persons objects v → HasNeighbours l.rows persons (Contains objects)
