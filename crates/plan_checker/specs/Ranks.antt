-- Ranks of objects, which rise from each person's own object to those that cost little more with
-- their prices.
use Rattle.std.specs.Prelude.{◌≡◌, ◌≢◌, ℕ, ℤ, pos, neg_ℤ, ◌^◌, ◌*◌, ◌<◌, ◌+ℤ◌, ◌≤ℤ◌, ◌<ℤ◌, List, Some, Bool, true, false, length, All}
use Rattle.assign_core.specs.Numbered.{IsNumber}
use Rattle.assign_core.specs.Rows.{listed_in, listed_or_zero, row_of}
use Rattle.assign_core.specs.Assignment.{IsBest}
use Rattle.assign_core.specs.Prices.{price_of}
use Rattle.dual_checker.specs.Faults.{own_object}
use Rattle.cost_lists.specs.Blocks.{reduced_sum}
use Rattle.cost_lists.specs.Exact.{AreFree, IsOptimum, IsPriceInLimits}
use Rattle.cost_lists.specs.ListedCosts.{AreInLimits, ListedCosts}
use Rattle.cost_lists.specs.Source.{part_of}
use Rattle.plan_checker.specs.declared.rank.TheConstants.{NO_BOUND}
use Rattle.plan_checker.specs.Next.{IsBestBy, IsOnlyAssignment}
use Rattle.plan_checker.specs.Only.{IsOnlyBest}

-- a number of 32 bits
pub record IsRank (r : ℤ) : Type 0 where
  pub least : neg_ℤ (pos (2 ^ 31)) ≤ℤ r
  pub greatest : r ≤ℤ pos (2 ^ 31)

-- the rank of object j
abbrev pub rank_of : List ℤ → ℕ → ℤ
rank_of ranks j = price_of ranks j

-- the sum of cost and price of person i's own object; under Max, of the cost with the other sign
abbrev pub own_sum : ListedCosts → List ℕ → List ℤ → ℕ → ℤ
own_sum l xs prices i = reduced_sum l.sense prices (own_object xs i) (listed_or_zero (row_of l.rows i) (own_object xs i))

-- person i lists object k, whose reduced cost is below a bound: with its price it costs less than
-- so much more than the own one
pub record IsInCore (bound : ℤ) (l : ListedCosts) (xs : List ℕ) (prices : List ℤ) (i k : ℕ) : Type 0 where
  pub cost : ℤ
  pub listed : listed_in (row_of l.rows i) k ≡ Some cost
  pub low : reduced_sum l.sense prices k cost <ℤ (own_sum l xs prices i +ℤ bound)

-- further lists of prices of m objects, one after the other: in range, and 0 where nobody owns the
-- object
pub record ArePrices (m count : ℕ) (xs : List ℕ) (others : List ℤ) : Type 0 where
  pub long : length others ≡ count * m
  pub in_range : All IsPriceInLimits others
  pub free : (t : ℕ) → t < count → AreFree m (part_of m t others) xs

-- a pair that is in the core by the prices, and also by the first t of the further lists
pub record IsOpen (bound : ℤ) (l : ListedCosts) (xs : List ℕ) (prices others : List ℤ) (t i k : ℕ) : Type 0 where
  pub core : IsInCore bound l xs prices i k
  pub low : (s : ℕ) → s < t → reduced_sum l.sense (part_of l.m s others) k core.cost <ℤ (own_sum l xs (part_of l.m s others) i +ℤ bound)

-- each further list proves the assignment among the pairs that are open by the lists before it: no
-- other object of a person costs less with its price than the own one
abbrev pub ProveOpen : ℤ → ListedCosts → List ℕ → List ℤ → ℕ → List ℤ → Type 0
ProveOpen bound l xs prices count others =
    (t i k : ℕ) → t < count → (o : IsOpen bound l xs prices others t i k) → k ≢ own_object xs i →
    own_sum l xs (part_of l.m t others) i ≤ℤ reduced_sum l.sense (part_of l.m t others) k o.core.cost

-- by how much ranks must rise
abbrev pub step_of : Bool → ℤ
step_of false = pos 0
step_of true = pos 1

-- of the pairs that are open by all lists none leads to an object of a lower rank than the person's
-- own one, and where ranks are strict none to another object of the same
abbrev pub RanksRise : Bool → ℤ → ListedCosts → List ℕ → List ℤ → List ℤ → ℕ → List ℤ → Type 0
RanksRise strict bound l xs prices ranks count others =
    (i k : ℕ) → IsOpen bound l xs prices others count i k → k ≢ own_object xs i →
    (rank_of ranks (own_object xs i) +ℤ step_of strict) ≤ℤ rank_of ranks k

-- the price of object j is below a bound, and also by each further list
pub record IsLow (bound : ℤ) (m : ℕ) (prices : List ℤ) (count : ℕ) (others : List ℤ) (j : ℕ) : Type 0 where
  pub first : price_of prices j <ℤ bound
  pub later : (t : ℕ) → t < count → price_of (part_of m t others) j <ℤ bound

-- a rank for each object, and further lists of prices, which prove the assignment among the pairs
-- that are still open below a bound: ranks rise where a pair stays open, and the rank is 0 where
-- nobody owns the object, and from 0 where its price stays below the bound
pub record AreRanked (strict : Bool) (bound : ℤ) (l : ListedCosts) (xs : List ℕ) (prices ranks : List ℤ) (count : ℕ) (others : List ℤ) : Type 0 where
  pub long : length ranks ≡ l.m
  pub in_range : All IsRank ranks
  pub priced : ArePrices l.m count xs others
  pub proved : ProveOpen bound l xs prices count others
  pub rise : RanksRise strict bound l xs prices ranks count others
  pub unowned : AreFree l.m ranks xs
  pub free : (j : ℕ) → IsNumber l.m j → IsLow bound l.m prices count others j → pos 0 ≤ℤ rank_of ranks j

-- with strict ranks below a bound each other assignment costs at least as much more than an optimal
-- one
abbrev pub RanksMeanNext : Type 0
RanksMeanNext = (bound : ℤ) (l : ListedCosts) (xs : List ℕ) (prices ranks : List ℤ) (count : ℕ) (others : List ℤ) → AreInLimits l → IsOptimum l xs prices →
    AreRanked true bound l xs prices ranks count others → IsBestBy l.sense l.rows xs bound

-- with strict ranks below each bound there is no other assignment
abbrev pub RanksMeanAlone : Type 0
RanksMeanAlone = (l : ListedCosts) (xs : List ℕ) (prices ranks : List ℤ) (count : ℕ) (others : List ℤ) → AreInLimits l → IsOptimum l xs prices →
    AreRanked true NO_BOUND l xs prices ranks count others → IsOnlyAssignment l.rows xs

-- with strict ranks below 1 an optimal assignment is the only one
abbrev pub RanksMeanOnly : Type 0
RanksMeanOnly = (l : ListedCosts) (xs : List ℕ) (prices ranks : List ℤ) (count : ℕ) (others : List ℤ) → AreInLimits l → IsOptimum l xs prices →
    AreRanked true (pos 1) l xs prices ranks count others → IsOnlyBest l.sense l.rows xs

-- with ranks below 1 each person's object has the same rank in each optimal assignment
abbrev pub RanksMeanKept : Type 0
RanksMeanKept = (l : ListedCosts) (xs : List ℕ) (prices ranks : List ℤ) (count : ℕ) (others : List ℤ) → AreInLimits l → IsOptimum l xs prices →
    AreRanked false (pos 1) l xs prices ranks count others → (ys : List ℕ) → IsBest l.sense l.rows ys →
    (i : ℕ) → IsNumber (length l.rows) i → rank_of ranks (own_object ys i) ≡ rank_of ranks (own_object xs i)
