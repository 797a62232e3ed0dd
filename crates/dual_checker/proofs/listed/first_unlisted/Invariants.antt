use Rattle.std.proofs.Common.{ℕ}
use Rattle.assign_core.specs.Numbered.{IsNumber}
use Rattle.assign_core.specs.Rows.{IsListed}
use Rattle.dual_checker.specs.Faults.{own_object}
use Rattle.dual_checker.proofs.listed.first_unlisted.Given as goal

abbrev pub invariant-loop-i : goal.invariant-loop-i
invariant-loop-i l = (k : ℕ) → IsNumber l.i k → IsListed l.problem k (own_object l.objects k)
