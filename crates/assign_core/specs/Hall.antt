-- Hall sets: persons who list fewer objects than they are.
use Rattle.std.specs.Prelude.{ℕ, ◌<◌, ◌↔◌, List, length, All, Contains}
use Rattle.std.specs.List.Sorted.{IsStrictlyIncreasing}
use Rattle.assign_core.specs.Numbered.{IsNumber}
use Rattle.assign_core.specs.Rows.{Listing, IsListed}

-- some person of the list lists object j
abbrev pub IsNeighbour : List Listing → List ℕ → ℕ → Type 0
IsNeighbour rows persons j = (i : ℕ) × Contains persons i × IsListed rows i j

-- the objects are all that the persons list, and are fewer than the persons; both lists rise
pub record IsHallSet (rows : List Listing) (persons objects : List ℕ) : Type 0 where
  pub persons_rise : IsStrictlyIncreasing persons
  pub objects_rise : IsStrictlyIncreasing objects
  pub within : All (IsNumber (length rows)) persons
  pub neighbours : (j : ℕ) → Contains objects j ↔ IsNeighbour rows persons j
  pub fewer : length objects < length persons

-- the persons and the objects of a Hall set
pub record HallLists : Type 0 where
  pub persons : List ℕ
  pub objects : List ℕ

-- both lists rise
pub record IsInOrder (lists : HallLists) : Type 0 where
  pub persons : IsStrictlyIncreasing lists.persons
  pub objects : IsStrictlyIncreasing lists.objects
