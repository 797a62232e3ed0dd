use Rattle.std.proofs.Common.{ℕ}
use Rattle.assign_core.specs.Numbered.{IsNumber, IsMarked}
use Rattle.exact_checker.proofs.hall_marks.lowest_unmarked.Given as goal

abbrev pub invariant-loop-i : goal.invariant-loop-i
invariant-loop-i l = (k : ℕ) → IsNumber l.i k → IsMarked l.marks k
