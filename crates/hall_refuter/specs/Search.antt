-- The result of a search.
use Rattle.std.specs.Prelude.{ℕ, ◌↔◌, List, Option, Contains}
use Rattle.assign_core.specs.Rows.{Listing}
use Rattle.assign_core.specs.Hall.{HallLists, IsHallSet}
use Rattle.assign_core.specs.Reach.{IsReached, IsBlocked, IsPath}
use Rattle.hall_refuter.specs.declared.search.Search.{Search}
use Rattle.hall_refuter.specs.declared.search.Search.TheVariants.{Hall, Path}

-- a Hall set of all persons that person i reaches
pub record IsRefuted (rows : List Listing) (owners : List (Option ℕ)) (i : ℕ) (lists : HallLists) : Type 0 where
  pub reached : (x : ℕ) → Contains lists.persons x ↔ IsReached rows owners i x
  pub hall : IsHallSet rows lists.persons lists.objects
  pub blocked : IsBlocked rows owners i

-- a Hall set, or an alternating path to an unowned object
abbrev pub IsFound : List Listing → List (Option ℕ) → ℕ → Search → Type 0
IsFound rows owners i (Hall lists) = IsRefuted rows owners i lists
IsFound rows owners i (Path path) = IsPath rows owners i path.items

-- the result is a Hall set
abbrev pub IsHall : Search → Type 0
IsHall (Hall lists) = Unit {0}
IsHall (Path path) = ⊥
