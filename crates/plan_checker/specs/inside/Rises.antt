-- An optimum as it is read, and pairs compared with the own ones of their persons.
use Rattle.std.specs.Prelude.{◌≡◌, ◌≢◌, ◌⊎◌, ◌-◌, ◌+◌, ◌*◌, ℕ, ℤ, pos, neg_ℤ, ◌+ℤ◌, ◌≤ℤ◌, ◌<ℤ◌, ◌<◌, ◌≤◌, List, Bool, length, slice_index_or, All}
use Rattle.assign_core.specs.declared.numbers.TheConstants.{GREATEST_COST}
use Rattle.assign_core.specs.Numbered.{IsMarked, IsNumber}
use Rattle.assign_core.specs.Rows.{IsCost}
use Rattle.assign_core.specs.Prices.{price_of}
use Rattle.cost_lists.specs.declared.numbers.TheConstants.{GREATEST_PRICE}
use Rattle.cost_lists.specs.declared.source.Pairs.{Pairs}
use Rattle.cost_lists.specs.Exact.{IsPriceInLimits}
use Rattle.cost_lists.specs.Own.{minimised}
use Rattle.cost_lists.specs.Source.{part_of}
use Rattle.plan_checker.specs.declared.rises.Plan.{Plan}
use Rattle.plan_checker.specs.Ranks.{IsRank, step_of}

-- the sum of a cost and a price
pub record IsSum (s : ℤ) : Type 0 where
  pub least : neg_ℤ GREATEST_COST ≤ℤ s
  pub greatest : s ≤ℤ (GREATEST_COST +ℤ GREATEST_PRICE)

-- n persons' objects and costs, ranks of m objects, and prices of these, with further lists of
-- prices
pub record IsPlan (n m : ℕ) (p : Plan) : Type 0 where
  pub own_long : length p.own.now ≡ n
  pub objects_long : length p.objects.now ≡ n
  pub prices_long : length p.prices.now ≡ m
  pub ranks_long : length p.ranks.now ≡ m
  pub own_in : All IsCost p.own.now
  pub objects_in : All (IsNumber m) p.objects.now
  pub prices_in : All IsPriceInLimits p.prices.now
  pub others_long : length p.others.now ≡ p.count * m
  pub others_in : All IsPriceInLimits p.others.now

-- the object of person i
abbrev pub object_at : Plan → ℕ → ℕ
object_at p i = slice_index_or p.objects.now (i - 1) 0

-- the price and the rank of object j
abbrev pub price_at : Plan → ℕ → ℤ
price_at p j = slice_index_or p.prices.now (j - 1) (pos 0)

abbrev pub rank_at : Plan → ℕ → ℤ
rank_at p j = slice_index_or p.ranks.now (j - 1) (pos 0)

-- the sum of person i's own cost and price
abbrev pub sum_at : Plan → ℕ → ℤ
sum_at p i = slice_index_or p.own.now (i - 1) (pos 0) +ℤ price_at p (object_at p i)

-- the price of object j by further list t
abbrev pub other_price_at : Plan → ℕ → ℕ → ℤ
other_price_at p t j = price_of (part_of (length p.prices.now) t p.others.now) j

-- the sum of object k's cost and its price by further list t, and that of person i's own object
abbrev pub other_sum : Plan → ℕ → ℕ → ℤ → ℤ
other_sum p t k cost = minimised p.sense cost +ℤ other_price_at p t k

abbrev pub own_other_sum : Plan → ℕ → ℕ → ℤ
own_other_sum p t i = slice_index_or p.own.now (i - 1) (pos 0) +ℤ other_price_at p t (object_at p i)

-- by the first t further lists the reduced cost of object k is below the bound for person i at this
-- cost
abbrev pub StaysOpen : Plan → ℕ → ℕ → ℕ → ℤ → Type 0
StaysOpen p t i k cost = (s : ℕ) → s < t → other_sum p s k cost <ℤ (own_other_sum p s i +ℤ p.bound)

-- the rank of object k is higher than that of the own one for person i; where ranks aren't strict
-- it may be the same
abbrev pub IsHigher : Plan → ℕ → ℕ → Type 0
IsHigher p i k = (rank_at p (object_at p i) +ℤ step_of p.is_strict) ≤ℤ rank_at p k

-- as long as the pair stays open no further list shows that it costs less than the own one, and if
-- it stays open by all the rank is higher
pub record RisesLater (p : Plan) (i k : ℕ) (cost : ℤ) : Type 0 where
  pub proved : (t : ℕ) → t < p.count → StaysOpen p t i k cost → own_other_sum p t i ≤ℤ other_sum p t k cost
  pub higher : StaysOpen p p.count i k cost → IsHigher p i k

-- the same if the reduced cost of object k, not the own one, is below the bound by the prices
abbrev pub Rises : Plan → ℕ → ℕ → ℤ → Type 0
Rises p i k cost =
    (minimised p.sense cost +ℤ price_at p k) <ℤ (sum_at p i +ℤ p.bound) → k ≢ object_at p i → RisesLater p i k cost

-- from one place of a row up to another each sum of cost and price is above a sum by the bound
abbrev pub AllReach : Plan → List ℤ → ℤ → ℕ → ℕ → Type 0
AllReach p row sum from to = (k : ℕ) → k < to → from ≤ k → (sum +ℤ p.bound) ≤ℤ (minimised p.sense (slice_index_or row k (pos 0)) +ℤ price_at p (k + 1))

-- the objects of a row of person i from one place up to another
abbrev pub PartRises : Plan → ℕ → List ℤ → ℕ → ℕ → Type 0
PartRises p i row from to = (j : ℕ) → j < to → from ≤ j → Rises p i (j + 1) (slice_index_or row j (pos 0))

-- the objects of a row of costs, of person i
abbrev pub RowRises : Plan → ℕ → List ℤ → Type 0
RowRises p i row = (j : ℕ) → j < length row → Rises p i (j + 1) (slice_index_or row j (pos 0))

-- all rows
abbrev pub RowsRise : Plan → List ℤ → Type 0
RowsRise p costs = (i : ℕ) → i < length p.own.now → RowRises p (i + 1) (part_of (length p.prices.now) i costs)

-- the listed pairs
abbrev pub PairsRise : Plan → Pairs → Type 0
PairsRise p pairs =
    (q : ℕ) → q < length pairs.persons.now →
    Rises p (slice_index_or pairs.persons.now q 0) (slice_index_or pairs.objects.now q 0) (slice_index_or pairs.costs.now q (pos 0))

-- the price of object j stays below the bound by each further list
abbrev pub StaysLow : Plan → ℕ → Type 0
StaysLow p j = (t : ℕ) → t < p.count → other_price_at p t j <ℤ p.bound

-- each further list has price 0 for it
abbrev pub HasNoPrice : Plan → ℕ → Type 0
HasNoPrice p j = (t : ℕ) → t < p.count → other_price_at p t j ≡ pos 0

-- by the mark, prices and rank at a place: an object that isn't owned has rank 0 and further prices
-- 0, and one whose price stays below the bound a rank from 0
pub record IsFreeAt (owned : List Bool) (p : Plan) (j : ℕ) : Type 0 where
  pub in_range : IsRank (slice_index_or p.ranks.now j (pos 0))
  pub unowned : IsMarked owned (j + 1) ⊎ (slice_index_or p.ranks.now j (pos 0) ≡ pos 0)
  pub unpriced : IsMarked owned (j + 1) ⊎ HasNoPrice p (j + 1)
  pub free : slice_index_or p.prices.now j (pos 0) <ℤ p.bound → StaysLow p (j + 1) → pos 0 ≤ℤ slice_index_or p.ranks.now j (pos 0)
