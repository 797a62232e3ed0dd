-- What a caller gives.
use Rattle.std.specs.Prelude.{◌≡◌, ℕ, zero, suc, ◌*◌, ◌+◌, ◌/◌, ◌%◌, ℤ, List, Option, None, Some, Bool, true, length, map, replicate, ◌==◌, ◌&&◌, not, if◌then◌else◌}
use Rattle.std.specs.List.{range_with_len}
use Rattle.assign_core.specs.declared.sense.Sense.{Sense}
use Rattle.assign_core.specs.declared.sense.Sense.TheVariants.{Min, Max}
use Rattle.cost_lists.specs.ListedCosts.{IsCount}
use Rattle.count_checker.specs.declared.lists.CountLists.{CountLists}
use Rattle.count_checker.specs.CountLists.{AreCountLists}

-- the number of the sense; the pairs' rows, columns and costs; the least and the greatest counts of rows
-- and of columns; and the columns' groups
pub record InputCounts : Type 0 where
  pub sense : ℕ
  pub rows : List ℕ
  pub columns : List ℕ
  pub costs : List ℤ
  pub row_least : List ℕ
  pub row_most : List ℕ
  pub column_least : List ℕ
  pub column_most : List ℕ
  pub groups : List ℕ

-- the sense with this number
abbrev pub sense_of : ℕ → Option Sense
sense_of zero = Some Min
sense_of (suc zero) = Some Max
sense_of (suc (suc k)) = None

-- costs, but no rows and columns of pairs
abbrev pub is_dense : InputCounts → Bool
is_dense g = (length g.rows == 0) && (length g.columns == 0) && not (length g.costs == 0)

-- a cost for each row and each column, of which there are few enough
pub record IsDense (g : InputCounts) : Type 0 where
  pub rows_count : IsCount (length g.row_least)
  pub columns_count : IsCount (length g.column_least)
  pub long : length g.costs ≡ length g.row_least * length g.column_least

-- a problem without listed pairs has them
abbrev pub HasDense : InputCounts → Type 0
HasDense g = is_dense g ≡ true → IsDense g

-- the rows and the columns of k pairs, row by row of m columns
abbrev pub dense_rows : ℕ → ℕ → List ℕ
dense_rows m k = map (λ i. i / m + 1) (range_with_len 0 k)

abbrev pub dense_columns : ℕ → ℕ → List ℕ
dense_columns m k = map (λ i. i % m + 1) (range_with_len 0 k)

-- the rows, the columns and the groups that are meant
abbrev pub rows_of : InputCounts → List ℕ
rows_of g = if is_dense g then dense_rows (length g.column_least) (length g.costs) else g.rows

abbrev pub columns_of : InputCounts → List ℕ
columns_of g = if is_dense g then dense_columns (length g.column_least) (length g.costs) else g.columns

abbrev pub groups_of : InputCounts → List ℕ
groups_of g = if length g.groups == 0 then replicate (length g.column_least) 0 else g.groups

-- lists that are those which are meant
pub record AreListsOf (g : InputCounts) (l : CountLists) : Type 0 where
  pub sense : sense_of g.sense ≡ Some l.sense
  pub rows : l.rows.now ≡ rows_of g
  pub columns : l.columns.now ≡ columns_of g
  pub costs : l.costs.now ≡ g.costs
  pub row_least : l.row_least.now ≡ g.row_least
  pub row_most : l.row_most.now ≡ g.row_most
  pub column_least : l.column_least.now ≡ g.column_least
  pub column_most : l.column_most.now ≡ g.column_most
  pub groups : l.groups.now ≡ groups_of g

-- what holds of the lists that are meant, which are a problem
pub record IsOfInput (g : InputCounts) (Holds : CountLists → Type 0) : Type 0 where
  pub lists : CountLists
  pub meant : AreListsOf g lists
  pub whole : AreCountLists lists
  pub holds : Holds lists

-- a problem of these lists
abbrev pub input_counts : ℕ → List ℕ → List ℕ → List ℤ → List ℕ → List ℕ → List ℕ → List ℕ → List ℕ → InputCounts
input_counts sense rows columns costs row_least row_most column_least column_most groups = record {
  sense = sense;
  rows = rows;
  columns = columns;
  costs = costs;
  row_least = row_least;
  row_most = row_most;
  column_least = column_least;
  column_most = column_most;
  groups = groups;
}
