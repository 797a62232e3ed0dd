-- What a block over doubles shows, in units of 2 ^ -1074.
use Rattle.std.specs.Prelude.{◌≡◌, ◌↔◌, ◌⊎◌, ℕ, ℤ, pos, ◌+◌, ◌<◌, ◌≤◌, ◌<ℤ◌, ◌≤ℤ◌, List, [], ◌∷◌, Some, drop, length, slice_index_or, false, IsTrue}
use lib.Ieee.{Float, nan}
use Rattle.assign_core.specs.declared.sense.Sense.{Sense}
use Rattle.assign_core.specs.Numbered.{IsNumber, numbered}
use Rattle.assign_core.specs.Rows.{Listing, listed_in, row_of}
use Rattle.cost_lists.specs.Blocks.{reduced_sum}
use Rattle.double_costs.specs.Units.{is_number, units_of}
use Rattle.double_checker.specs.inside.Pairs.{paid}

-- the row numbers: each is the exact sum of a turned cost and a price
abbrev pub numbers_in : Sense → List Float → List Float → List ℤ
numbers_in sense [] prices = []
numbers_in sense (c ∷ costs) [] = []
numbers_in sense (c ∷ costs) (p ∷ prices) = paid sense c p ∷ numbers_in sense costs prices

-- person i lists object j at this cost, and no object at a lesser sum of cost and price
pub record IsLeastListed (sense : Sense) (rows : List Listing) (prices : List ℤ) (i j : ℕ) (c : Float) : Type 0 where
  pub finite : IsTrue (is_number c)
  pub listed : listed_in (row_of rows i) j ≡ Some (units_of c)
  pub none_below : (k : ℕ) (d : ℤ) → listed_in (row_of rows i) k ≡ Some d →
      reduced_sum sense prices j (units_of c) ≤ℤ reduced_sum sense prices k d

-- person i lists nothing
abbrev pub ListsNothing : List Listing → ℕ → Type 0
ListsNothing rows i = (k : ℕ) (d : ℤ) → ¬ (listed_in (row_of rows i) k ≡ Some d)

-- for each person an object of the least sum and its cost, or 0 where it lists nothing
pub record AreLeastPairs (sense : Sense) (rows : List Listing) (prices : List ℤ) (objects : List ℕ) (costs : List Float) : Type 0 where
  pub long : length objects ≡ length rows
  pub costs_long : length costs ≡ length rows
  pub each : (i : ℕ) → IsNumber (length rows) i →
      ((numbered objects i 0 ≡ 0) × ListsNothing rows i)
      ⊎ IsLeastListed sense rows prices i (numbered objects i 0) (numbered costs i nan)

-- person i lists its own object, at a sum that is its number
abbrev pub IsShown : Sense → List Listing → List ℤ → List ℕ → List ℤ → ℕ → Type 0
IsShown sense rows prices xs numbers i =
    (c : ℤ) × (listed_in (row_of rows i) (numbered xs i 0) ≡ Some c)
    × (reduced_sum sense prices (numbered xs i 0) c ≡ numbered numbers i (pos 0))

-- for each person 1 if that is so, and 0 if not
pub record AreMarks (sense : Sense) (rows : List Listing) (prices : List ℤ) (xs : List ℕ) (numbers : List ℤ) (marks : List ℕ) : Type 0 where
  pub long : length marks ≡ length rows
  pub zero_or_one : (i : ℕ) → IsNumber (length rows) i → (numbered marks i 0 ≡ 0) ⊎ (numbered marks i 0 ≡ 1)
  pub each : (i : ℕ) → IsNumber (length rows) i → (numbered marks i 0 ≡ 1) ↔ IsShown sense rows prices xs numbers i

-- at place i, from 1, one of two lists has no finite number
abbrev pub IsInfiniteIn : List Float → List Float → ℕ → Type 0
IsInfiniteIn xs ys i = (is_number (numbered xs i nan) ≡ false) ⊎ (is_number (numbered ys i nan) ≡ false)

-- person i lists object j at this cost, at a sum below its number
pub record IsBetterPair (sense : Sense) (rows : List Listing) (prices numbers : List ℤ) (i j : ℕ) (c : Float) : Type 0 where
  pub finite : IsTrue (is_number c)
  pub listed : listed_in (row_of rows i) j ≡ Some (units_of c)
  pub under : reduced_sum sense prices j (units_of c) <ℤ numbered numbers i (pos 0)

-- three lists as triples of a person, an object and a cost
pub record PairLists : Type 0 where
  pub persons : List ℕ
  pub objects : List ℕ
  pub costs : List Float

-- a pair has a lower person than another, or the same one and a lower object
abbrev pub IsLower : ℕ → ℕ → ℕ → ℕ → Type 0
IsLower i j k l = (i < k) ⊎ ((i ≡ k) × (j < l))

-- the first entries are better pairs, which rise, so that none stands twice, and at most so many of a person; the
-- others are those of before
pub record AreWritten (sense : Sense) (rows : List Listing) (prices numbers : List ℤ) (most count : ℕ) (before after : PairLists) : Type 0 where
  pub few : count ≤ length after.persons
  pub better : (q : ℕ) → q < count → IsBetterPair sense rows prices numbers
      (slice_index_or after.persons q 0) (slice_index_or after.objects q 0) (slice_index_or after.costs q nan)
  pub rise : (p q : ℕ) → p < q → q < count → IsLower (slice_index_or after.persons p 0) (slice_index_or after.objects p 0)
      (slice_index_or after.persons q 0) (slice_index_or after.objects q 0)
  pub at_most : (q : ℕ) → q + most < count → slice_index_or after.persons q 0 < slice_index_or after.persons (q + most) 0
  pub persons : drop count after.persons ≡ drop count before.persons
  pub objects : drop count after.objects ≡ drop count before.objects
  pub costs : drop count after.costs ≡ drop count before.costs
