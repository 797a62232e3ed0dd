use Rattle.std.proofs.Common.{ℕ, ◌<◌, ◌≤◌, IsTrue}
use Rattle.double_checker.specs.inside.Pairs.{at}
use Rattle.block_doubles.specs.inside.Places.{IsAboveGuess}
use Rattle.block_doubles.proofs.least.are_above_guess.Given as goal

-- where all are above it so far
abbrev pub invariant-loop-k : goal.invariant-loop-k
invariant-loop-k l = IsTrue l.all → (h : ℕ) → l.from ≤ h → h < l.k → IsAboveGuess l.sense l.guess (at l.row h) (at l.prices h)
