use Rattle.std.proofs.Common.{slice_index}
use Rattle.assign_core.specs.Numbered.{IsMarked}
use Rattle.exact_checker.proofs.Earliest.{IsFirstSoFar}
use Rattle.exact_checker.proofs.hall_marks.first_missing.Given as goal

abbrev pub invariant-loop-k : goal.invariant-loop-k
invariant-loop-k l =
    IsFirstSoFar l.pairs.persons.now l.pairs.objects.now
    (λ q. IsMarked l.chosen (slice_index l.pairs.persons.now q) × ¬ IsMarked l.named (slice_index l.pairs.objects.now q)) l.k l.first
