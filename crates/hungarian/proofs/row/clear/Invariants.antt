use Rattle.std.proofs.Common.{◌≡◌, ℕ, ◌<◌}
use Rattle.cost_lists.specs.declared.numbers.TheConstants.{UNLISTED}
use Rattle.hungarian.specs.inside.Plans.{int_at}
use Rattle.hungarian.proofs.row.clear.Given as goal

abbrev pub invariant-loop-j : goal.invariant-loop-j
invariant-loop-j l = (k : ℕ) → k < l.j → int_at l.row k ≡ UNLISTED
