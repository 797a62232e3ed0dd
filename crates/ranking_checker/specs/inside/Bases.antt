-- An optimum as it is read.
use Rattle.std.specs.Prelude.{◌≡◌, ℕ, ℤ, pos, ◌-◌, ◌+◌, ◌+ℤ◌, ◌<ℤ◌, List, length, slice_index_or, All}
use Rattle.assign_core.specs.Numbered.{IsNumber}
use Rattle.assign_core.specs.Rows.{IsCost}
use Rattle.cost_lists.specs.declared.source.Pairs.{Pairs}
use Rattle.cost_lists.specs.Exact.{IsPriceInLimits}
use Rattle.cost_lists.specs.Own.{minimised}
use Rattle.cost_lists.specs.Source.{part_of}
use Rattle.ranking_checker.specs.declared.low.Base.{Base}
use Rattle.ranking_checker.specs.declared.pairs.Pair.{Pair}
use Rattle.ranking_checker.specs.inside.Core.{pair}

-- n persons' objects and costs, and prices of m objects
pub record IsBase (n m : ℕ) (b : Base) : Type 0 where
  pub own_long : length b.own.now ≡ n
  pub objects_long : length b.objects.now ≡ n
  pub prices_long : length b.prices.now ≡ m
  pub own_in : All IsCost b.own.now
  pub objects_in : All (IsNumber m) b.objects.now
  pub prices_in : All IsPriceInLimits b.prices.now

-- the sum of person i's own cost and price
abbrev pub sum_at : Base → ℕ → ℤ
sum_at b i = slice_index_or b.own.now (i - 1) (pos 0) +ℤ slice_index_or b.prices.now (slice_index_or b.objects.now (i - 1) 0 - 1) (pos 0)

-- the reduced cost of a pair is below the bound
abbrev pub IsLow : Base → Pair → Type 0
IsLow b p = (minimised b.sense p.cost +ℤ slice_index_or b.prices.now (p.object - 1) (pos 0)) <ℤ (sum_at b p.person +ℤ b.bound)

-- the pair at a place of a person's row
abbrev pub row_pair : ℕ → List ℤ → ℕ → Pair
row_pair person row j = pair person (j + 1) (slice_index_or row j (pos 0))

-- of all costs of persons and m objects
abbrev pub cut_pair_at : ℕ → List ℤ → ℕ → ℕ → Pair
cut_pair_at m costs i j = row_pair (i + 1) (part_of m i costs) j

-- of listed pairs
abbrev pub listed_pair : Pairs → ℕ → Pair
listed_pair pairs k = pair (slice_index_or pairs.persons.now k 0) (slice_index_or pairs.objects.now k 0) (slice_index_or pairs.costs.now k (pos 0))
