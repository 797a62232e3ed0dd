use Rattle.std.proofs.Common.{◌≢◌, ℕ, pos}
use Rattle.assign_core.specs.Numbered.{IsNumber, numbered}
use Rattle.wide_checker.specs.declared.numbers.TheConstants.{UNLISTED}
use Rattle.wide_checker.proofs.unlisted.first_unlisted.Given as goal

abbrev pub invariant-loop-i : goal.invariant-loop-i
invariant-loop-i l = (k : ℕ) → IsNumber l.i k → numbered l.own k (pos 0) ≢ UNLISTED
