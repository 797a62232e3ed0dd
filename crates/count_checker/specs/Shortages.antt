-- Shortages, and what a checker of them may find.
use Rattle.std.specs.Prelude.{◌≡◌, ℕ, List, Bool, false, ◌&&◌, not, length}
use Rattle.assign_core.specs.Numbered.{numbered}
use Rattle.assign_core.specs.Sparse.{Triple}
use Rattle.count_checker.specs.declared.shortage.Side.{Side}
use Rattle.count_checker.specs.declared.shortage.Side.TheVariants.{Rows, Columns}
use Rattle.count_checker.specs.declared.shortage.ShortageVerdict.{ShortageVerdict}
use Rattle.count_checker.specs.declared.shortage.ShortageVerdict.TheVariants.{Length, Enough, Yes}
use Rattle.count_checker.specs.Counts.{CountProblem}
use Rattle.count_checker.specs.CountSets.{ColumnsLack, RowsLack, marked_sum}

-- rows that lack, or columns that lack
abbrev pub IsShortage : CountProblem → Side → List Bool → List Bool → Type 0
IsShortage p Rows rows columns = RowsLack p rows columns
IsShortage p Columns rows columns = ColumnsLack p rows columns

-- a mark for each row and each column
pub record AreLongMarks (p : CountProblem) (rows columns : List Bool) : Type 0 where
  pub rows_long : length rows ≡ length p.rows.least
  pub columns_long : length columns ≡ length p.columns.least

-- the first fault in the order of the variants, or Yes if there is none
abbrev pub IsShortageVerdict : CountProblem → Side → List Bool → List Bool → ShortageVerdict → Type 0
IsShortageVerdict p side rows columns Length = ¬ AreLongMarks p rows columns
IsShortageVerdict p side rows columns Enough = AreLongMarks p rows columns × ¬ IsShortage p side rows columns
IsShortageVerdict p side rows columns Yes = AreLongMarks p rows columns × IsShortage p side rows columns

-- the pair is of the marked ones on the side that lacks, and of none on the other
abbrev pub is_outside : Side → List Bool → List Bool → Triple → Bool
is_outside Rows rows columns t = numbered rows t.0 false && not (numbered columns t.1 false)
is_outside Columns rows columns t = numbered columns t.1 false && not (numbered rows t.0 false)

-- what the marked ones of that side need
abbrev pub need_of : Side → CountProblem → List Bool → List Bool → ℕ
need_of Rows p rows columns = marked_sum rows p.rows.least
need_of Columns p rows columns = marked_sum columns p.columns.least

-- what the marked ones of the other side may take
abbrev pub room_of : Side → CountProblem → List Bool → List Bool → ℕ
room_of Rows p rows columns = marked_sum columns p.columns.most
room_of Columns p rows columns = marked_sum rows p.rows.most

-- at most one verdict holds of marks
abbrev pub ShortageVerdictsDiffer : Type 0
ShortageVerdictsDiffer = (p : CountProblem) (side : Side) (rows columns : List Bool) (v w : ShortageVerdict) →
    IsShortageVerdict p side rows columns v → IsShortageVerdict p side rows columns w → v ≡ w
