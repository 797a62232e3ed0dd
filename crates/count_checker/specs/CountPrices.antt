-- Numbers of rows and columns that show a plan to be best.
use Rattle.std.specs.Prelude.{◌≡◌, ℕ, ℤ, pos, ◌-ℤ◌, ◌≤ℤ◌, ◌<ℤ◌, ◌⊎◌, List, Bool, length, All, Contains, IsTrue}
use Rattle.assign_core.specs.Numbered.{IsNumber, numbered}
use Rattle.assign_core.specs.Prices.{price_of}
use Rattle.assign_core.specs.Sparse.{Triple}
use Rattle.assign_core.specs.declared.sense.Sense.{Sense}
use Rattle.cost_lists.specs.Own.{minimised}
use Rattle.count_checker.specs.Counts.{Bounds, CountProblem, chosen, row_count, column_count, are_rivals}

-- what is left of a pair's cost, negated under Max, without its row's and its column's number
abbrev pub rest_of : Sense → List ℤ → List ℤ → Triple → ℤ
rest_of sense r v t = minimised sense t.2 -ℤ price_of r t.0 -ℤ price_of v t.1

-- a chosen rival of the pair
pub record HasRival (groups : List ℕ) (pairs : List Triple) (t : Triple) : Type 0 where
  pub rival : Triple
  pub taken : Contains pairs rival
  pub rivals : IsTrue (are_rivals groups rival t)

-- the number is above 0 only at the least count, and below 0 only at the greatest
pub record IsTight (b : Bounds) (k count : ℕ) (price : ℤ) : Type 0 where
  pub above : pos 0 <ℤ price → count ≡ numbered b.least k 0
  pub below : price <ℤ pos 0 → count ≡ numbered b.most k 0

-- each chosen pair leaves at most 0, and no more than its rivals; each listed pair leaves at least 0
-- or has a chosen rival (itself, say); and the numbers of rows and columns are tight
pub record AreCountPrices (p : CountProblem) (plan : List Bool) (r v : List ℤ) : Type 0 where
  pub rows_long : length r ≡ length p.rows.least
  pub columns_long : length v ≡ length p.columns.least
  pub chosen_most : All (λ t. rest_of p.sense r v t ≤ℤ pos 0) (chosen p.pairs plan)
  pub chosen_least : (s t : Triple) → Contains (chosen p.pairs plan) s → Contains p.pairs t → IsTrue (are_rivals p.groups s t) → rest_of p.sense r v s ≤ℤ rest_of p.sense r v t
  pub left : All (λ t. (pos 0 ≤ℤ rest_of p.sense r v t) ⊎ HasRival p.groups (chosen p.pairs plan) t) p.pairs
  pub rows : (i : ℕ) → IsNumber (length p.rows.least) i → IsTight p.rows i (row_count (chosen p.pairs plan) i) (price_of r i)
  pub columns : (j : ℕ) → IsNumber (length p.columns.least) j → IsTight p.columns j (column_count (chosen p.pairs plan) j) (price_of v j)
