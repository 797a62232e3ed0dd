use Rattle.std.proofs.Common.{◌≢◌, ℕ, pos}
use Rattle.assign_core.specs.Numbered.{IsNumber, numbered}
use Rattle.cost_lists.specs.declared.numbers.TheConstants.{UNLISTED}
use Rattle.exact_checker.proofs.unlisted.first_unlisted.Given as goal

abbrev pub invariant-loop-i : goal.invariant-loop-i
invariant-loop-i l = (k : ℕ) → IsNumber l.i k → numbered l.own k (pos 0) ≢ UNLISTED
