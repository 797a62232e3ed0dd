use Rattle.std.proofs.Common.{ℕ, ◌<◌, get_or}
use Rattle.assign_core.specs.Numbered.{IsNumber}
use Rattle.count_checker.proofs.list_fault.first_outside.Given as goal

abbrev pub invariant-loop-k : goal.invariant-loop-k
invariant-loop-k l = (i d : ℕ) → i < l.k → IsNumber l.n (get_or l.numbers i d)
