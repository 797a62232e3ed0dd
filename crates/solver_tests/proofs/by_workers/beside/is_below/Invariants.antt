use Rattle.std.proofs.Common.{ℕ, ◌<◌, ◌≤ℤ◌, pos, get_or}
use Rattle.solver_tests.proofs.by_workers.beside.is_below.Given as goal

abbrev pub invariant-loop-i : goal.invariant-loop-i
invariant-loop-i l = (k : ℕ) → k < l.i → get_or l.low k (pos 0) ≤ℤ get_or l.high k (pos 0)
