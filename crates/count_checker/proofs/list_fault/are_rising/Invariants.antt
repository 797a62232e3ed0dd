use Rattle.std.proofs.Common.{ℕ, ◌≡◌, ◌<◌, ◌≤◌, ◌+◌, get_or, true}
use Rattle.count_checker.proofs.list_fault.are_rising.Given as goal

abbrev pub invariant-loop-k : goal.invariant-loop-k
invariant-loop-k l = l.are ≡ true → (i : ℕ) → i + 1 < l.k → get_or l.numbers i 0 ≤ get_or l.numbers (i + 1) 0
