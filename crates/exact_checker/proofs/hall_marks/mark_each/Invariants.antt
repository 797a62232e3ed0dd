use Rattle.std.proofs.Common.{◌≡◌, ℕ, ◌<◌, false, true, slice_index_or}
use Rattle.exact_checker.proofs.hall_marks.mark_each.Given as goal

abbrev pub invariant-loop-mark : goal.invariant-loop-mark
invariant-loop-mark l = (k : ℕ) → k < l.mark-index → slice_index_or l.marks k false ≡ true
