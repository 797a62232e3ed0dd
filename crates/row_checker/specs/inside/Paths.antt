-- Places in a tree: the splits above them, and what is left to show.
use Rattle.std.specs.Prelude.{◌≡◌, ℕ, ◌-◌, ◌<◌, ◌≤◌, ◌^◌, ℤ, pos, ◌<ℤ◌, List, [], ◌∷◌, ◌++◌, Option, None, Some, length}
use Rattle.row_checker.specs.declared.verdict.End.{End}
use Rattle.row_checker.specs.declared.verdict.End.TheVariants.{Stands, Stops}
use Rattle.row_checker.specs.declared.tree.TheConstants.{MOST_DEPTH}
use Rattle.row_checker.specs.declared.tree.Step.{Step}
use Rattle.row_checker.specs.declared.tree.Step.TheVariants.{Goes, Ends}
use Rattle.row_checker.specs.Rows.{LinearRow}
use Rattle.row_checker.specs.Trees.{and_then, high_row, tree_ends}

-- the rows below the splits of a path, the nearest split first
abbrev pub below : List LinearRow → List LinearRow → List LinearRow
below given [] = given
below given (row ∷ path) = below given path ++ row ∷ []

-- how many splits may follow these rows
abbrev pub left_over : List LinearRow → List LinearRow → ℕ
left_over given rows = MOST_DEPTH - (length rows - length given)

-- how the tree at a place below the path ends
abbrev pub ends_below : ℕ → List ℤ → List LinearRow → List LinearRow → ℕ → End
ends_below n numbers given path p = tree_ends n numbers (MOST_DEPTH - length path) (below given path) p

-- the end of the high half follows that of a low one
abbrev pub half_ends : ℕ → List ℤ → List LinearRow → LinearRow → List LinearRow → Option ℤ → End → End
half_ends n numbers given row path None end = end
half_ends n numbers given row path (Some t) end =
    and_then end (λ q. ends_below n numbers given (high_row row.terms t ∷ path) q)

-- how the whole tree ends, if the part below the path ends so
abbrev pub whole_ends : ℕ → List ℤ → List LinearRow → List LinearRow → End → End
whole_ends n numbers given [] end = end
whole_ends n numbers given (row ∷ path) end =
    whole_ends n numbers given path (half_ends n numbers given row path row.most end)

-- a low half has a number that isn't the greatest
abbrev pub IsLess : Option ℤ → Type 0
IsLess None = Unit {0}
IsLess (Some t) = t <ℤ pos (2 ^ 63 - 1)

abbrev pub AreLess : List LinearRow → Type 0
AreLess [] = Unit {0}
AreLess (row ∷ path) = IsLess row.most × AreLess path

-- the rows are those below some path, and the whole tree ends so if the part below it does
pub record IsAt (n : ℕ) (numbers : List ℤ) (given rows : List LinearRow) (all end : End) : Type 0 where
  pub path : List LinearRow
  pub are : rows ≡ below given path
  pub deep : length path ≤ MOST_DEPTH
  pub less : AreLess path
  pub ends : whole_ends n numbers given path end ≡ all

-- a tree that stands ends after its place
abbrev pub IsInside : ℕ → ℕ → End → Type 0
IsInside p long (Stands q) = (p < q) × (q ≤ long)
IsInside p long (Stops fault) = Unit {0}

-- where a step leads: to the node that comes next, which stands after the last, or to the end of the
-- node, below the rows
abbrev pub IsStep : ℕ → List ℤ → List LinearRow → List LinearRow → End → ℕ → Step → Type 0
IsStep n numbers given rows all p (Goes q) =
    (p < q) × (q ≤ length numbers) × IsAt n numbers given rows all (tree_ends n numbers (left_over given rows) rows q)
IsStep n numbers given rows all p (Ends end) = IsInside p (length numbers) end × IsAt n numbers given rows all end

-- and where a step leads that climbs as far as it can
abbrev pub IsAdvance : ℕ → List ℤ → List LinearRow → List LinearRow → End → ℕ → Step → Type 0
IsAdvance n numbers given rows all p (Goes q) =
    (p < q) × (q ≤ length numbers) × IsAt n numbers given rows all (tree_ends n numbers (left_over given rows) rows q)
IsAdvance n numbers given rows all p (Ends end) = end ≡ all
