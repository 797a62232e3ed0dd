-- The faults of a caller's lists.
use Rattle.std.specs.Prelude.{◌≡◌, ℕ, ◌+◌, ◌-◌, ◌<◌, ◌≤◌, List, length, All, slice_index, slice_index_or}
use Rattle.assign_core.specs.Numbered.{IsNumber}
use Rattle.assign_core.specs.Rows.{IsCost}
use Rattle.cost_lists.specs.ListedCosts.{IsCount}
use Rattle.count_checker.specs.declared.numbers.TheConstants.{GREATEST_PAIRS}
use Rattle.count_checker.specs.declared.lists.CountLists.{CountLists}
use Rattle.count_checker.specs.declared.list_fault.ListFault.{ListFault}
use Rattle.count_checker.specs.declared.list_fault.ListFault.TheVariants.{Size, Length, Row, Order, Column, Group, RowCounts, ColumnCounts, Cost}
use Rattle.count_checker.specs.CountFaults.{IsFirstPlace}
use Rattle.count_checker.specs.CountLists.{AreBounds, AreRising}

-- the element at place k lacks the property, and those before it have it
pub record IsFirstWithout {A : Type 0} (P : A → Type 0) (xs : List A) (k : ℕ) : Type 0 where
  pub within : k < length xs
  pub lacks : (d : A) → ¬ P (slice_index_or xs k d)
  pub before : (i : ℕ) (d : A) → i < k → P (slice_index_or xs i d)

-- the number at place k is below the one before, and none of those before it is
pub record IsFirstLower (numbers : List ℕ) (k : ℕ) : Type 0 where
  pub later : 0 < k
  pub within : k < length numbers
  pub lower : slice_index numbers k < slice_index numbers (k - 1)
  pub before : (i : ℕ) → i + 1 < k → slice_index numbers i ≤ slice_index numbers (i + 1)

-- there are as many rows, columns and pairs as a problem may have
pub record AreOfSize (l : CountLists) : Type 0 where
  pub rows_count : IsCount (length l.row_least.now)
  pub columns_count : IsCount (length l.column_least.now)
  pub pairs_few : length l.rows.now ≤ GREATEST_PAIRS

-- the lengths of the lists fit each other
pub record AreOfLength (l : CountLists) : Type 0 where
  pub columns_long : length l.columns.now ≡ length l.rows.now
  pub costs_long : length l.costs.now ≡ length l.rows.now
  pub row_most_long : length l.row_most.now ≡ length l.row_least.now
  pub column_most_long : length l.column_most.now ≡ length l.column_least.now
  pub groups_long : length l.groups.now ≡ length l.column_least.now

-- the pairs are of rows and columns, by rising rows
pub record AreRightPairs (l : CountLists) : Type 0 where
  pub rows_in : All (IsNumber (length l.row_least.now)) l.rows.now
  pub rising : AreRising l.rows.now
  pub columns_in : All (IsNumber (length l.column_least.now)) l.columns.now

-- so it is, and the groups are at most the number of columns
pub record AreGrouped (l : CountLists) : Type 0 where
  pub size : AreOfSize l
  pub fit : AreOfLength l
  pub pairs : AreRightPairs l
  pub groups_in : All (λ g. g ≤ length l.column_least.now) l.groups.now

-- place k is the first at which a least count is above its greatest
abbrev pub IsFirstCrossed : List ℕ → List ℕ → ℕ → Type 0
IsFirstCrossed least most k = IsFirstPlace (λ q. slice_index most q < slice_index least q) (length least) k

-- the first fault in the order of the variants, by the first place that has it
abbrev pub HasListFault : CountLists → ListFault → Type 0
HasListFault l Size = ¬ AreOfSize l
HasListFault l Length = AreOfSize l × ¬ AreOfLength l
HasListFault l (Row k) = AreOfSize l × AreOfLength l × IsFirstWithout (IsNumber (length l.row_least.now)) l.rows.now k
HasListFault l (Order k) =
    AreOfSize l × AreOfLength l × All (IsNumber (length l.row_least.now)) l.rows.now × IsFirstLower l.rows.now k
HasListFault l (Column k) =
    AreOfSize l × AreOfLength l × All (IsNumber (length l.row_least.now)) l.rows.now × AreRising l.rows.now
    × IsFirstWithout (IsNumber (length l.column_least.now)) l.columns.now k
HasListFault l (Group k) =
    AreOfSize l × AreOfLength l × AreRightPairs l × IsFirstWithout (λ g. g ≤ length l.column_least.now) l.groups.now k
HasListFault l (RowCounts k) = AreGrouped l × IsFirstCrossed l.row_least.now l.row_most.now k
HasListFault l (ColumnCounts k) =
    AreGrouped l × AreBounds l.row_least.now l.row_most.now × IsFirstCrossed l.column_least.now l.column_most.now k
HasListFault l (Cost k) =
    AreGrouped l × AreBounds l.row_least.now l.row_most.now × AreBounds l.column_least.now l.column_most.now
    × IsFirstWithout IsCost l.costs.now k
