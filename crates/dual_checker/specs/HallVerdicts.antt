-- The meaning of each verdict on a list of persons and a list of objects.
use Rattle.std.specs.Prelude.{◌≡◌, ℕ, ◌≤◌, ◌↔◌, List, length, All, Contains}
use Rattle.std.specs.List.Sorted.{IsStrictlyIncreasing}
use Rattle.assign_core.specs.Numbered.{IsNumber}
use Rattle.assign_core.specs.Rows.{Listing, IsListed, IsRow}
use Rattle.assign_core.specs.Hall.{IsHallSet, IsNeighbour}
use Rattle.dual_checker.specs.declared.hall_verdict.HallVerdict.{HallVerdict}
use Rattle.dual_checker.specs.declared.hall_verdict.HallVerdict.TheVariants.{Range, Order, Missing, Extra, Count, Yes}
use Rattle.dual_checker.specs.Faults.{IsFirst}

-- the numbers are those of the persons, who have a row each, and of m objects
abbrev pub AreInRange : ℕ → List Listing → List ℕ → List ℕ → Type 0
AreInRange m rows persons objects = All (IsNumber (length rows)) persons × All (IsNumber m) objects

-- both lists rise
abbrev pub AreRising : List ℕ → List ℕ → Type 0
AreRising persons objects = IsStrictlyIncreasing persons × IsStrictlyIncreasing objects

-- person i lists object j, which is unnamed
abbrev pub ListsUnnamed : List Listing → (ℕ → Type 0) → ℕ → ℕ → Type 0
ListsUnnamed rows IsNamed i j = IsListed rows i j × ¬ IsNamed j

-- person i is named and lists some unnamed object
abbrev pub Lacks : List Listing → List ℕ → (ℕ → Type 0) → ℕ → Type 0
Lacks rows persons IsNamed i = Contains persons i × ((j : ℕ) × ListsUnnamed rows IsNamed i j)

-- each object that a named person lists is named
abbrev pub HasNeighbours : List Listing → List ℕ → (ℕ → Type 0) → Type 0
HasNeighbours rows persons IsNamed = (j : ℕ) → IsNeighbour rows persons j → IsNamed j

-- object j is named and none of the named persons lists it
abbrev pub IsExtra : List Listing → List ℕ → List ℕ → ℕ → Type 0
IsExtra rows persons objects j = Contains objects j × ¬ IsNeighbour rows persons j

-- the named objects are just those that the named persons list
abbrev pub AreNeighbours : List Listing → List ℕ → List ℕ → Type 0
AreNeighbours rows persons objects = (j : ℕ) → Contains objects j ↔ IsNeighbour rows persons j

-- among m objects (of a square, as many as persons): the first fault in the order of the variants,
-- by the lowest number that has it, or Yes if there is none
abbrev pub IsHallVerdict : ℕ → List Listing → List ℕ → List ℕ → HallVerdict → Type 0
IsHallVerdict m rows persons objects Range = ¬ AreInRange m rows persons objects
IsHallVerdict m rows persons objects Order = AreInRange m rows persons objects × ¬ AreRising persons objects
IsHallVerdict m rows persons objects (Missing i j) =
    AreInRange m rows persons objects × AreRising persons objects
    × IsFirst (Lacks rows persons (Contains objects)) (length rows) i × IsFirst (ListsUnnamed rows (Contains objects) i) m j
IsHallVerdict m rows persons objects (Extra j) =
    AreInRange m rows persons objects × AreRising persons objects × HasNeighbours rows persons (Contains objects)
    × IsFirst (IsExtra rows persons objects) m j
IsHallVerdict m rows persons objects Count =
    AreInRange m rows persons objects × AreRising persons objects × AreNeighbours rows persons objects × (length persons ≤ length objects)
IsHallVerdict m rows persons objects Yes = IsHallSet rows persons objects

-- at most one verdict holds of rows among m objects and two lists
abbrev pub HallVerdictsDiffer : Type 0
HallVerdictsDiffer = (m : ℕ) (rows : List Listing) (persons objects : List ℕ) (v w : HallVerdict) → All (IsRow m) rows →
    IsHallVerdict m rows persons objects v → IsHallVerdict m rows persons objects w → v ≡ w
