use Rattle.std.proofs.Common.{slice_index}
use Rattle.assign_core.specs.Numbered.{IsMarked}
use Rattle.dual_checker.specs.HallMarks.{AddsMarks}
use Rattle.exact_checker.proofs.Marks.{IsFit}
use Rattle.exact_checker.proofs.hall_marks.mark_listed.Given as goal

-- the objects of the passed pairs whose persons are marked are marked
abbrev pub invariant-loop-k : goal.invariant-loop-k
invariant-loop-k l =
    AddsMarks l.initial.listed (IsFit l.pairs.objects.now (λ q. IsMarked l.chosen (slice_index l.pairs.persons.now q)) l.k) l.listed
