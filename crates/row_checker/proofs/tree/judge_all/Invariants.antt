use Rattle.std.proofs.Common.{ℕ, ◌≡◌, ◌≤◌, ◌-◌, pos, length, map, get_or}
use Rattle.std.specs.Vec.{vec_len}
use Rattle.row_checker.specs.declared.tree.TheConstants.{MOST_DEPTH}
use Rattle.row_checker.specs.Rows.{row_in}
use Rattle.row_checker.specs.Trees.{tree_ends}
use Rattle.row_checker.specs.inside.Paths.{IsAt, left_over}
use Rattle.row_checker.proofs.tree.judge_all.Given as goal

-- the whole ends so if what is left does
abbrev pub invariant-loop-step : goal.invariant-loop-step
invariant-loop-step l =
    (l.given ≡ length (map row_in l.initial.rows.items)) × (l.given ≤ vec_len l.rows) × (l.place ≤ length l.numbers)
    × ((k : ℕ) → get_or l.weights k (pos 0) ≡ pos 0) × (length l.weights ≡ length l.initial.weights)
    × IsAt (length l.initial.weights) l.numbers (map row_in l.initial.rows.items) (map row_in l.rows.items)
    (tree_ends (length l.initial.weights) l.numbers MOST_DEPTH (map row_in l.initial.rows.items) 0)
    (tree_ends (length l.initial.weights) l.numbers (left_over (map row_in l.initial.rows.items) (map row_in l.rows.items)) (map row_in l.rows.items) l.place)

abbrev pub decreases-loop-step : goal.decreases-loop-step
decreases-loop-step l = length l.numbers - l.place
