-- Costs as they are given, and their rows.
use Rattle.std.specs.Prelude.{◌≡◌, ℕ, ℤ, ◌*◌, List, length, take, drop, All}
use Rattle.assign_core.specs.declared.sense.Sense.{Sense}
use Rattle.assign_core.specs.Numbered.{IsNumber}
use Rattle.assign_core.specs.Dense.{rows_cut}
use Rattle.assign_core.specs.Rows.{Listing, IsCost}
use Rattle.assign_core.specs.Sparse.{Triple}
use Rattle.cost_lists.specs.declared.source.Pairs.{Pairs}
use Rattle.cost_lists.specs.declared.source.Source.{Source}
use Rattle.cost_lists.specs.declared.source.Source.TheVariants.{Dense, Listed}
use Rattle.cost_lists.specs.ListedCosts.{IsCount}
use Rattle.cost_lists.specs.Given.{rows_given, triples_of}

-- three lists of one length: persons from 1 to n, objects from 1 to m, and costs in range
pub record ArePairs (n m : ℕ) (pairs : Pairs) : Type 0 where
  pub objects_long : length pairs.objects.now ≡ length pairs.persons.now
  pub costs_long : length pairs.costs.now ≡ length pairs.persons.now
  pub persons_in : All (IsNumber n) pairs.persons.now
  pub objects_in : All (IsNumber m) pairs.objects.now
  pub costs_in : All IsCost pairs.costs.now

-- n * m costs in range
pub record AreCosts (n m : ℕ) (costs : List ℤ) : Type 0 where
  pub long : length costs ≡ n * m
  pub costs_in : All IsCost costs

-- the costs of n persons and m objects
abbrev pub IsSource : ℕ → ℕ → Source → Type 0
IsSource n m (Dense costs) = AreCosts n m costs.now
IsSource n m (Listed pairs) = ArePairs n m pairs

-- the triples of listed pairs
abbrev pub triples_in : Pairs → List Triple
triples_in pairs = triples_of pairs.persons.now pairs.objects.now pairs.costs.now

-- the rows of n persons among m objects; a pair given more than once counts at its best cost
abbrev pub rows_in : Sense → ℕ → ℕ → Source → List Listing
rows_in sense n m (Dense costs) = rows_cut m n costs.now
rows_in sense n m (Listed pairs) = rows_given sense (triples_in pairs) m 1 n

-- few enough persons and objects, and their costs
pub record IsGiven (n m : ℕ) (source : Source) : Type 0 where
  pub persons : IsCount n
  pub objects : IsCount m
  pub costs : IsSource n m source

-- the costs of the person at a place, from 0, of all costs of persons and m objects
abbrev pub part_of : ℕ → ℕ → List ℤ → List ℤ
part_of m i costs = take m (drop (i * m) costs)
