use Rattle.std.proofs.Common.{slice_index}
use Rattle.assign_core.specs.Rows.{IsListed}
use Rattle.dual_checker.specs.HallMarks.{AddsMarks}
use Rattle.dual_checker.proofs.HallMarking.{Earlier}
use Rattle.dual_checker.proofs.hall_marks.mark_listed.Given as goal

-- the objects of the persons that were passed are marked
abbrev pub invariant-loop-person : goal.invariant-loop-person
invariant-loop-person l = AddsMarks l.initial.marks (Earlier (λ k j. IsListed l.problem (slice_index l.persons k) j) l.person-index) l.marks
