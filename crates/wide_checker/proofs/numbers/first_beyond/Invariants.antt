use Rattle.std.proofs.Common.{ℕ, ◌<◌, get_or}
use Rattle.wide_checker.specs.declared.numbers.Wide.{Wide}
use Rattle.wide_checker.specs.WideNumbers.{IsWideCost}
use Rattle.wide_checker.proofs.numbers.first_beyond.Given as goal

-- the numbers before are costs
abbrev pub invariant-loop-k : goal.invariant-loop-k
invariant-loop-k l = (i : ℕ) (d : Wide) → i < l.k → IsWideCost (get_or l.costs i d)
