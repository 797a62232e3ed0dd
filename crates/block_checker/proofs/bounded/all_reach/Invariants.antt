use Rattle.std.proofs.Common.{ℕ, IsTrue, pos, ◌<◌, ◌≤ℤ◌, get_or}
use Rattle.block_checker.proofs.bounded.all_reach.Given as goal

-- where all reach so far, no passed number is above its sum
abbrev pub invariant-loop-i : goal.invariant-loop-i
invariant-loop-i l = IsTrue l.all → (k : ℕ) → k < l.i → get_or l.numbers k (pos 0) ≤ℤ get_or l.least k (pos 0)
