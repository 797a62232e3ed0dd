use Rattle.std.proofs.Common.{ℕ, ◌≡◌, ◌<◌, get_or, true}
use Rattle.assign_core.specs.Numbered.{IsNumber}
use Rattle.count_checker.proofs.list_fault.are_numbers.Given as goal

abbrev pub invariant-loop-k : goal.invariant-loop-k
invariant-loop-k l = l.are ≡ true → (i d : ℕ) → i < l.k → IsNumber l.n (get_or l.numbers i d)
