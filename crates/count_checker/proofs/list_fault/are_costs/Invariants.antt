use Rattle.std.proofs.Common.{ℕ, ℤ, ◌≡◌, ◌<◌, get_or, true}
use Rattle.assign_core.specs.Rows.{IsCost}
use Rattle.count_checker.proofs.list_fault.are_costs.Given as goal

abbrev pub invariant-loop-k : goal.invariant-loop-k
invariant-loop-k l = l.are ≡ true → (i : ℕ) (d : ℤ) → i < l.k → IsCost (get_or l.costs i d)
