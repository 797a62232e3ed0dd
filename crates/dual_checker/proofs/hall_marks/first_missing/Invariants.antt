use Rattle.std.proofs.Common.{ℕ, ◌<◌, slice_index}
use Rattle.assign_core.specs.Numbered.{IsMarked}
use Rattle.assign_core.specs.Rows.{IsListed}
use Rattle.dual_checker.proofs.hall_marks.first_missing.Given as goal

-- the objects that the passed persons list are marked
abbrev pub invariant-loop-person : goal.invariant-loop-person
invariant-loop-person l = (k j : ℕ) → k < l.person-index → IsListed l.problem (slice_index l.persons k) j → IsMarked l.named j
