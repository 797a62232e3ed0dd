-- Who lists which objects, at what costs, and whether low or high costs are wanted.
use Rattle.std.specs.Prelude.{ℕ, ◌<◌, ◌≤◌, List, length, All}
use Rattle.assign_core.specs.declared.sense.Sense.{Sense}
use Rattle.assign_core.specs.Rows.{Listing, HasCosts, IsWithin}
use Rattle.cost_lists.specs.declared.numbers.TheConstants.{GREATEST_NUMBER}

-- the sense, the number of objects, and a row for each person
pub record ListedCosts : Type 0 where
  pub sense : Sense
  pub m : ℕ
  pub rows : List Listing

-- a number of persons, or of objects
pub record IsCount (n : ℕ) : Type 0 where
  pub some : 0 < n
  pub few : n ≤ GREATEST_NUMBER

-- there are few enough persons and objects; the rows list objects from 1 to m, at costs in range
pub record AreInLimits (l : ListedCosts) : Type 0 where
  pub persons : IsCount (length l.rows)
  pub objects : IsCount l.m
  pub within : All (IsWithin l.m) l.rows
  pub costs : All HasCosts l.rows
