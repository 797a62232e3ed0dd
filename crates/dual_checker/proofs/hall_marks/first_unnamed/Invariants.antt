use Rattle.std.proofs.Common.{ℕ, ℤ, ◌<◌, slice_index_or}
use Rattle.assign_core.specs.Numbered.{IsMarked}
use Rattle.dual_checker.proofs.hall_marks.first_unnamed.Given as goal

-- the objects that were passed are marked
abbrev pub invariant-loop-i : goal.invariant-loop-i
invariant-loop-i l = (k : ℕ) (e : ℕ × ℤ) → k < l.i → IsMarked l.named (slice_index_or l.row k e).0
