-- What a checker of plans may find.
use Rattle.std.specs.Prelude.{◌≡◌, ℕ, ℤ, pos, ◌≤ℤ◌, ◌<◌, ◌⊎◌, List, Bool, false, true, length, IsTrue, slice_index_or}
use Rattle.assign_core.specs.Numbered.{IsNumber}
use Rattle.assign_core.specs.Prices.{price_of}
use Rattle.dual_checker.specs.Faults.{IsFirst}
use Rattle.count_checker.specs.declared.lists.CountLists.{CountLists}
use Rattle.count_checker.specs.declared.verdict.CountVerdict.{CountVerdict}
use Rattle.count_checker.specs.declared.verdict.CountVerdict.TheVariants.{Yes, Length, Twice, Row, Column, Pair}
use Rattle.count_checker.specs.Counts.{Bounds, CountProblem, IsCount, IsPlan, are_rivals, chosen, row_count, column_count}
use Rattle.count_checker.specs.CountPrices.{AreCountPrices, IsTight, rest_of}
use Rattle.count_checker.specs.CountLists.{AreCountLists, pair_at, problem_in}

abbrev pub IsChosen : List Bool → ℕ → Type 0
IsChosen plan k = slice_index_or plan k false ≡ true

abbrev pub AreRivalsAt : CountLists → ℕ → ℕ → Type 0
AreRivalsAt l q k = IsTrue (are_rivals l.groups.now (pair_at l q) (pair_at l k))

-- the pair at the place is chosen, and so is a rival before it
pub record IsDouble (l : CountLists) (plan : List Bool) (k : ℕ) : Type 0 where
  pub taken : IsChosen plan k
  pub before : ℕ
  pub less : before < k
  pub taken_before : IsChosen plan before
  pub rivals : AreRivalsAt l before k

-- a chosen rival of the pair at the place
pub record HasRivalAt (l : CountLists) (plan : List Bool) (k : ℕ) : Type 0 where
  pub rival : ℕ
  pub below : rival < length l.rows.now
  pub taken : IsChosen plan rival
  pub rivals : AreRivalsAt l rival k

-- the pair at the place leaves at most 0 if it is chosen, and no less than chosen rivals; it leaves at
-- least 0 or has a chosen rival
pub record IsPairRight (l : CountLists) (plan : List Bool) (r v : List ℤ) (k : ℕ) : Type 0 where
  pub chosen_most : IsChosen plan k → rest_of l.sense r v (pair_at l k) ≤ℤ pos 0
  pub rivals_less : (q : ℕ) → q < length l.rows.now → IsChosen plan q → AreRivalsAt l q k → rest_of l.sense r v (pair_at l q) ≤ℤ rest_of l.sense r v (pair_at l k)
  pub left : (pos 0 ≤ℤ rest_of l.sense r v (pair_at l k)) ⊎ HasRivalAt l plan k

-- the count of row, or column, k is kept, and its number is tight
pub record IsKept (b : Bounds) (k count : ℕ) (price : ℤ) : Type 0 where
  pub kept : IsCount b k count
  pub tight : IsTight b k count price

-- k is the first of n places with the fault
pub record IsFirstPlace (Fault : ℕ → Type 0) (n k : ℕ) : Type 0 where
  pub below : k < n
  pub here : Fault k
  pub none_before : (q : ℕ) → q < k → ¬ Fault q

-- a choice for each pair, and a number for each row and each column
pub record AreLongCounts (p : CountProblem) (plan : List Bool) (r v : List ℤ) : Type 0 where
  pub plan_long : length plan ≡ length p.pairs
  pub rows_long : length r ≡ length p.rows.least
  pub columns_long : length v ≡ length p.columns.least

-- the same, by the lengths of the lists
pub record HaveLengths (l : CountLists) (plan : List Bool) (r v : List ℤ) : Type 0 where
  pub plan_long : length plan ≡ length l.rows.now
  pub rows_long : length r ≡ length l.row_least.now
  pub columns_long : length v ≡ length l.column_least.now

-- no chosen pair has a chosen rival before it
abbrev pub HasNoDouble : CountLists → List Bool → Type 0
HasNoDouble l plan = (k : ℕ) → k < length l.rows.now → ¬ IsDouble l plan k

-- the counts of rows, and of columns, are kept, and their numbers are tight
abbrev pub AreRowsKept : CountProblem → List Bool → List ℤ → Type 0
AreRowsKept p plan r = (i : ℕ) → IsNumber (length p.rows.least) i → IsKept p.rows i (row_count (chosen p.pairs plan) i) (price_of r i)

abbrev pub AreColumnsKept : CountProblem → List Bool → List ℤ → Type 0
AreColumnsKept p plan v = (j : ℕ) → IsNumber (length p.columns.least) j → IsKept p.columns j (column_count (chosen p.pairs plan) j) (price_of v j)

-- the first fault in the order of the verdicts, by its lowest number
abbrev pub IsCountVerdict : CountLists → List Bool → List ℤ → List ℤ → CountVerdict → Type 0
IsCountVerdict l plan r v Yes = IsPlan (problem_in l) plan × AreCountPrices (problem_in l) plan r v
IsCountVerdict l plan r v Length = ¬ AreLongCounts (problem_in l) plan r v
IsCountVerdict l plan r v (Twice k) = AreLongCounts (problem_in l) plan r v × IsFirstPlace (IsDouble l plan) (length l.rows.now) k
IsCountVerdict l plan r v (Row i) =
    let p = problem_in l in AreLongCounts p plan r v × HasNoDouble l plan
    × IsFirst (λ i. ¬ IsKept p.rows i (row_count (chosen p.pairs plan) i) (price_of r i)) (length p.rows.least) i
IsCountVerdict l plan r v (Column j) =
    let p = problem_in l in AreLongCounts p plan r v × HasNoDouble l plan × AreRowsKept p plan r
    × IsFirst (λ j. ¬ IsKept p.columns j (column_count (chosen p.pairs plan) j) (price_of v j)) (length p.columns.least) j
IsCountVerdict l plan r v (Pair k) =
    let p = problem_in l in AreLongCounts p plan r v × HasNoDouble l plan × AreRowsKept p plan r × AreColumnsKept p plan v
    × IsFirstPlace (λ q. ¬ IsPairRight l plan r v q) (length l.rows.now) k

-- at most one verdict holds of a plan and numbers
abbrev pub CountVerdictsDiffer : Type 0
CountVerdictsDiffer = (l : CountLists) (plan : List Bool) (r v : List ℤ) (a b : CountVerdict) → AreCountLists l →
    IsCountVerdict l plan r v a → IsCountVerdict l plan r v b → a ≡ b
