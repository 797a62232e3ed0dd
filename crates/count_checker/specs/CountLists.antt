-- Problems with counts and groups in a caller's lists.
use Rattle.std.specs.Prelude.{◌≡◌, ℕ, ◌+◌, ◌<◌, ◌≤◌, pos, List, length, All, slice_index, slice_index_or}
use Rattle.assign_core.specs.Numbered.{IsNumber}
use Rattle.assign_core.specs.Rows.{IsCost}
use Rattle.assign_core.specs.Sparse.{Triple}
use Rattle.cost_lists.specs.Given.{triples_of}
use Rattle.cost_lists.specs.ListedCosts.{IsCount}
use Rattle.count_checker.specs.declared.numbers.TheConstants.{GREATEST_PAIRS}
use Rattle.count_checker.specs.declared.lists.CountLists.{CountLists}
use Rattle.count_checker.specs.Counts.{CountProblem}

-- the problem of the lists
abbrev pub problem_in : CountLists → CountProblem
problem_in l = record {
  sense = l.sense;
  pairs = triples_of l.rows.now l.columns.now l.costs.now;
  rows = record { least = l.row_least.now; most = l.row_most.now };
  columns = record { least = l.column_least.now; most = l.column_most.now };
  groups = l.groups.now;
}

-- no number is below the one before
abbrev pub AreRising : List ℕ → Type 0
AreRising numbers = (k : ℕ) → k + 1 < length numbers → slice_index numbers k ≤ slice_index numbers (k + 1)

-- no least count is above its greatest
abbrev pub AreBounds : List ℕ → List ℕ → Type 0
AreBounds least most = (k : ℕ) → k < length least → slice_index least k ≤ slice_index most k

-- lists of the right lengths, of few enough rows, columns and pairs; pairs by rising rows; groups
-- numbered from 1; no least count above its greatest; costs in range
pub record AreCountLists (l : CountLists) : Type 0 where
  pub rows_count : IsCount (length l.row_least.now)
  pub columns_count : IsCount (length l.column_least.now)
  pub pairs_few : length l.rows.now ≤ GREATEST_PAIRS
  pub columns_long : length l.columns.now ≡ length l.rows.now
  pub costs_long : length l.costs.now ≡ length l.rows.now
  pub row_most_long : length l.row_most.now ≡ length l.row_least.now
  pub column_most_long : length l.column_most.now ≡ length l.column_least.now
  pub groups_long : length l.groups.now ≡ length l.column_least.now
  pub rows_in : All (IsNumber (length l.row_least.now)) l.rows.now
  pub rising : AreRising l.rows.now
  pub columns_in : All (IsNumber (length l.groups.now)) l.columns.now
  pub groups_in : All (λ g. g ≤ length l.groups.now) l.groups.now
  pub row_bounds : AreBounds l.row_least.now l.row_most.now
  pub column_bounds : AreBounds l.column_least.now l.column_most.now
  pub costs_in : All IsCost l.costs.now

-- the pair at a place
abbrev pub pair_at : CountLists → ℕ → Triple
pair_at l k = (slice_index l.rows.now k, slice_index l.columns.now k, slice_index_or l.costs.now k (pos 0))
