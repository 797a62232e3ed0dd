use Rattle.std.proofs.Common.{ℕ, ◌<◌, ◌≤◌, get_or}
use Rattle.c_wide.proofs.fewest.kept.first_beyond.Given as goal

-- the objects before are in range
abbrev pub invariant-loop-i : goal.invariant-loop-i
invariant-loop-i l = (q : ℕ) (d : ℕ) → q < l.i → get_or l.kept q d ≤ l.m
