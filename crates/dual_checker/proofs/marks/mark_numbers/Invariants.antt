use Rattle.std.proofs.Common.{◌≡◌, slice_index}
use Rattle.dual_checker.specs.HallMarks.{AddsMarks}
use Rattle.dual_checker.proofs.HallMarking.{Earlier}
use Rattle.dual_checker.proofs.marks.mark_numbers.Given as goal

-- the numbers that were passed are marked
abbrev pub invariant-loop-one : goal.invariant-loop-one
invariant-loop-one g l = AddsMarks l.initial.marks (Earlier (λ k j. slice_index (g.T.Placed.numbers_of l.given) k ≡ j) l.one-index) l.marks
