-- Costs as they are given, and their rows.
use Rattle.std.specs.Prelude.{◌≡◌, ℕ, ◌*◌, List, length, map, All}
use Rattle.assign_core.specs.declared.sense.Sense.{Sense}
use Rattle.assign_core.specs.Numbered.{IsNumber}
use Rattle.assign_core.specs.Dense.{rows_cut}
use Rattle.assign_core.specs.Rows.{Listing}
use Rattle.assign_core.specs.Sparse.{Triple}
use Rattle.cost_lists.specs.ListedCosts.{IsCount}
use Rattle.cost_lists.specs.Given.{rows_given, triples_of}
use Rattle.wide_checker.specs.declared.numbers.Wide.{Wide}
use Rattle.wide_checker.specs.declared.source.WidePairs.{WidePairs}
use Rattle.wide_checker.specs.declared.source.WideSource.{WideSource}
use Rattle.wide_checker.specs.declared.source.WideSource.TheVariants.{Dense, Listed}
use Rattle.wide_checker.specs.WideNumbers.{IsWideCost, wide_value}

-- three lists of one length: persons from 1 to n, objects from 1 to m, and costs in range
pub record AreWidePairs (n m : ℕ) (pairs : WidePairs) : Type 0 where
  pub objects_long : length pairs.objects.now ≡ length pairs.persons.now
  pub costs_long : length pairs.costs.now ≡ length pairs.persons.now
  pub persons_in : All (IsNumber n) pairs.persons.now
  pub objects_in : All (IsNumber m) pairs.objects.now
  pub costs_in : All IsWideCost pairs.costs.now

-- n * m costs in range
pub record AreWideCosts (n m : ℕ) (costs : List Wide) : Type 0 where
  pub long : length costs ≡ n * m
  pub costs_in : All IsWideCost costs

-- the costs of n persons and m objects
abbrev pub IsWideSource : ℕ → ℕ → WideSource → Type 0
IsWideSource n m (Dense costs) = AreWideCosts n m costs.now
IsWideSource n m (Listed pairs) = AreWidePairs n m pairs

-- the triples of listed pairs
abbrev pub triples_in : WidePairs → List Triple
triples_in pairs = triples_of pairs.persons.now pairs.objects.now (map wide_value pairs.costs.now)

-- the rows of n persons among m objects; a pair given more than once counts at its best cost
abbrev pub wide_rows : Sense → ℕ → ℕ → WideSource → List Listing
wide_rows sense n m (Dense costs) = rows_cut m n (map wide_value costs.now)
wide_rows sense n m (Listed pairs) = rows_given sense (triples_in pairs) m 1 n

-- few enough persons and objects, and their costs
pub record IsWideGiven (n m : ℕ) (source : WideSource) : Type 0 where
  pub persons : IsCount n
  pub objects : IsCount m
  pub costs : IsWideSource n m source
