use Rattle.std.proofs.Common.{ℕ, ℤ, ◌≡◌, ◌≤◌, List, length, map}
use Rattle.std.specs.Vec.{vec_len}
use Rattle.row_checker.specs.declared.verdict.End.{End}
use Rattle.row_checker.specs.declared.verdict.End.TheVariants.{Stands}
use Rattle.row_checker.specs.Rows.{LinearRow, row_in}
use Rattle.row_checker.specs.inside.Paths.{IsAt}
use Rattle.row_checker.proofs.tree.climb.Given as goal

-- what ended below the last row ends below the rows that are left
abbrev pub invariant-loop-rows : goal.invariant-loop-rows
invariant-loop-rows l =
    (l.given ≤ vec_len l.rows)
    × ((n : ℕ) (numbers : List ℤ) (given : List LinearRow) (all : End) (q : ℕ) → length given ≡ l.given →
    IsAt n numbers given (map row_in l.initial.rows.items) all (Stands q) → IsAt n numbers given (map row_in l.rows.items) all (Stands q))

abbrev pub decreases-loop-rows : goal.decreases-loop-rows
decreases-loop-rows l = vec_len l.rows
