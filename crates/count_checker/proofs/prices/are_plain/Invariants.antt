use Rattle.std.proofs.Common.{ℕ, ◌<◌}
use Rattle.count_checker.specs.inside.Plain.{IsPairPlain}
use Rattle.count_checker.proofs.prices.are_plain.Given as goal

abbrev pub invariant-loop-place : goal.invariant-loop-place
invariant-loop-place l = (k : ℕ) → k < l.place → IsPairPlain l.lists l.plan l.row_prices l.column_prices k
