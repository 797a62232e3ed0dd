-- The pairs of finite costs, in units.
use Rattle.std.specs.Prelude.{◌≡◌, ℕ, ℤ, ◌+◌, ◌/◌, ◌%◌, ◌<◌, List, [], ◌∷◌, ◌++◌, length, map, All, Contains, IsTrue, slice_index_or}
use lib.Ieee.{Float, nan}
use Rattle.assign_core.specs.Numbered.{IsNumber}
use Rattle.assign_core.specs.Sparse.{Triple}
use Rattle.cost_lists.specs.Given.{triples_of}
use Rattle.double_costs.specs.Units.{is_number}
use Rattle.wide_checker.specs.declared.numbers.Wide.{Wide}
use Rattle.wide_checker.specs.WideNumbers.{IsWideCost, wide_value}
use Rattle.c_wide.specs.declared.exact.pairs.UnitPairs.{UnitPairs}
use Rattle.c_wide.specs.exact.Units.{IsInUnits}

-- the triples of the lists
abbrev pub triples_in : UnitPairs → List Triple
triples_in pairs = triples_of pairs.persons.items pairs.objects.items (map wide_value pairs.costs.items)

-- a triple is that of a finite cost, at one of the first k places, row by row
pub record IsFromPlace (e m : ℕ) (costs : List Float) (k : ℕ) (t : Triple) : Type 0 where
  pub place : ℕ
  pub below : place < k
  pub person : t.0 ≡ place / m + 1
  pub object : t.1 ≡ place % m + 1
  pub cost : IsInUnits e (slice_index_or costs place nan) t.2

-- the lists have the finite costs at the first k places, in units, and no others
pub record HasPlaces (e n m : ℕ) (costs : List Float) (k : ℕ) (pairs : UnitPairs) : Type 0 where
  pub objects_long : length pairs.objects.items ≡ length pairs.persons.items
  pub costs_long : length pairs.costs.items ≡ length pairs.persons.items
  pub persons_in : All (IsNumber n) pairs.persons.items
  pub objects_in : All (IsNumber m) pairs.objects.items
  pub costs_in : All IsWideCost pairs.costs.items
  pub from : (t : Triple) → Contains (triples_in pairs) t → IsFromPlace e m costs k t
  pub all : (place : ℕ) → place < k → IsTrue (is_number (slice_index_or costs place nan)) →
      (z : ℤ) × Contains (triples_in pairs) (place / m + 1, place % m + 1, z)

-- one more pair at the end of each list
pub record IsPushed (before : UnitPairs) (pair : ℕ × ℕ × Wide) (after : UnitPairs) : Type 0 where
  pub persons : after.persons.items ≡ before.persons.items ++ pair.0 ∷ []
  pub objects : after.objects.items ≡ before.objects.items ++ pair.1 ∷ []
  pub costs : after.costs.items ≡ before.costs.items ++ pair.2 ∷ []
