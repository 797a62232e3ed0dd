-- The costs of a problem in units, in both forms.
use Rattle.std.specs.Prelude.{◌≡◌, ℕ, List, length, All, IsTrue}
use Rattle.std.specs.List.{AllZip}
use lib.Ieee.{Float}
use Rattle.assign_core.specs.Numbered.{IsNumber}
use Rattle.double_costs.specs.Units.{is_number}
use Rattle.wide_checker.specs.declared.numbers.Wide.{Wide}
use Rattle.wide_checker.specs.WideNumbers.{IsWideCost, wide_value}
use Rattle.wide_checker.specs.WideSources.{AreWideCosts}
use Rattle.c_wide.specs.declared.exact.costs.UnitCosts.{UnitCosts}
use Rattle.c_wide.specs.declared.exact.costs.UnitCosts.TheVariants.{Dense, Listed}
use Rattle.c_wide.specs.declared.exact.pairs.UnitPairs.{UnitPairs}
use Rattle.c_wide.specs.exact.Pairs.{HasPlaces}
use Rattle.c_wide.specs.exact.Units.{IsInUnits}

-- each cost is finite
abbrev pub AreFinite : List Float → Type 0
AreFinite costs = All (λ x. IsTrue (is_number x)) costs

-- a finite cost and the same in units
pub record IsUnitCost (e : ℕ) (x : Float) (w : Wide) : Type 0 where
  pub units : IsInUnits e x (wide_value w)
  pub range : IsWideCost w

-- each cost is finite, and these are all costs in units
abbrev pub AreInUnits : ℕ → List Float → List Wide → Type 0
AreInUnits e costs units = AllZip (IsUnitCost e) costs units

-- three lists of one length: persons from 1 to n, objects from 1 to m, and costs in range
pub record AreUnitPairs (n m : ℕ) (pairs : UnitPairs) : Type 0 where
  pub objects_long : length pairs.objects.items ≡ length pairs.persons.items
  pub costs_long : length pairs.costs.items ≡ length pairs.persons.items
  pub persons_in : All (IsNumber n) pairs.persons.items
  pub objects_in : All (IsNumber m) pairs.objects.items
  pub costs_in : All IsWideCost pairs.costs.items

-- a problem of n persons and m objects
abbrev pub AreCostsOf : ℕ → ℕ → UnitCosts → Type 0
AreCostsOf n m (Dense units) = AreWideCosts n m units.items
AreCostsOf n m (Listed pairs) = AreUnitPairs n m pairs

-- the finite costs in units, and no others
abbrev pub HasCosts : ℕ → ℕ → ℕ → List Float → UnitCosts → Type 0
HasCosts e n m costs (Dense units) = AreInUnits e costs units.items
HasCosts e n m costs (Listed pairs) = HasPlaces e n m costs (length costs) pairs
