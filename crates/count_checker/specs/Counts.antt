-- Problems with counts and groups: how many columns a row takes and how many rows a column takes.
use Rattle.std.specs.Prelude.{◌≡◌, ℕ, ℤ, pos, ◌+ℤ◌, ◌≤◌, List, [], ◌∷◌, Bool, true, false, ◌==◌, ◌&&◌, ◌||◌}
use Rattle.std.specs.Prelude.{nat_lt, length, count_by, All}
use Rattle.std.specs.List.{IsDistinct}
use Rattle.assign_core.specs.Assignment.{IsNoWorse}
use Rattle.assign_core.specs.Numbered.{IsNumber, numbered}
use Rattle.assign_core.specs.declared.sense.Sense.{Sense}
use Rattle.assign_core.specs.Sparse.{Triple}

-- for each row, or each column, the least and the greatest count
pub record Bounds : Type 0 where
  pub least : List ℕ
  pub most : List ℕ

-- whether low or high costs are wanted; the listed pairs, each a row, a column and a cost; the counts
-- of rows and columns; and for each column its group, or 0 for none
pub record CountProblem : Type 0 where
  pub sense : Sense
  pub pairs : List Triple
  pub rows : Bounds
  pub columns : Bounds
  pub groups : List ℕ

-- a pair of one of n rows and one of m columns
pub record IsPair (n m : ℕ) (t : Triple) : Type 0 where
  pub row : IsNumber n t.0
  pub column : IsNumber m t.1

-- the pairs are of the rows and the columns, which have two bounds each
pub record IsCountProblem (p : CountProblem) : Type 0 where
  pub pairs : All (IsPair (length p.rows.least) (length p.columns.least)) p.pairs
  pub rows : length p.rows.most ≡ length p.rows.least
  pub columns : length p.columns.most ≡ length p.columns.least

-- the pairs that a plan chooses: it says so of each pair
abbrev pub chosen : List Triple → List Bool → List Triple
chosen (t ∷ pairs) (true ∷ plan) = t ∷ chosen pairs plan
chosen (t ∷ pairs) (false ∷ plan) = chosen pairs plan
chosen pairs plan = []

-- the sum of the costs of pairs
abbrev pub cost_of : List Triple → ℤ
cost_of [] = pos 0
cost_of (t ∷ pairs) = t.2 +ℤ cost_of pairs

-- how many of the pairs are of row i, and of column j
abbrev pub row_count : List Triple → ℕ → ℕ
row_count pairs i = count_by (λ t. t.0 == i) pairs

abbrev pub column_count : List Triple → ℕ → ℕ
column_count pairs j = count_by (λ t. t.1 == j) pairs

-- a count within the bounds of row, or column, k
pub record IsCount (b : Bounds) (k count : ℕ) : Type 0 where
  pub least : numbered b.least k 0 ≤ count
  pub most : count ≤ numbered b.most k 0

-- pairs of one row that exclude each other: of one column, or of columns of one group
abbrev pub are_rivals : List ℕ → Triple → Triple → Bool
are_rivals groups s t =
    let group = λ (j : ℕ). numbered groups j 0 in
    (s.0 == t.0) && ((s.1 == t.1) || (nat_lt 0 (group s.1) && (group s.1 == group t.1)))

-- counts and groups are kept
pub record IsPlan (p : CountProblem) (plan : List Bool) : Type 0 where
  pub long : length plan ≡ length p.pairs
  pub rows : (i : ℕ) → IsNumber (length p.rows.least) i → IsCount p.rows i (row_count (chosen p.pairs plan) i)
  pub columns : (j : ℕ) → IsNumber (length p.columns.least) j → IsCount p.columns j (column_count (chosen p.pairs plan) j)
  pub apart : IsDistinct (are_rivals p.groups) (chosen p.pairs plan)

-- under Min no plan costs less, under Max none costs more
pub record IsBestPlan (p : CountProblem) (plan : List Bool) : Type 0 where
  pub planned : IsPlan p plan
  pub best : (other : List Bool) → IsPlan p other → IsNoWorse p.sense (cost_of (chosen p.pairs plan)) (cost_of (chosen p.pairs other))
