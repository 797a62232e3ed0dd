use Rattle.std.proofs.Common.{ℕ, ◌<◌, slice_index}
use Rattle.assign_core.specs.Numbered.{IsMarked}
use Rattle.dual_checker.proofs.marks.first_unmarked.Given as goal

-- the numbers that were passed are marked
abbrev pub invariant-loop-one : goal.invariant-loop-one
invariant-loop-one g l = (k : ℕ) → k < l.one-index → IsMarked l.marks (slice_index (g.T.Placed.numbers_of l.given) k)
