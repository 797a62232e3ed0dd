use Rattle.std.proofs.Common.{◌≡◌, pos, slice_index_or}
use Rattle.dual_checker.specs.HallMarks.{AddsMarks}
use Rattle.dual_checker.proofs.HallMarking.{Earlier}
use Rattle.dual_checker.proofs.hall_marks.mark_row.Given as goal

-- the objects that were passed are marked
abbrev pub invariant-loop-i : goal.invariant-loop-i
invariant-loop-i l = AddsMarks l.initial.marks (Earlier (λ k j. (slice_index_or l.row k (0, pos 0)).0 ≡ j) l.i) l.marks
