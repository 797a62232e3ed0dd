use Rattle.std.proofs.Common.{ℕ, ℤ, ◌<◌, slice_index_or}
use Rattle.parallel_checker.proofs.Persons.{IsNear}
use Rattle.parallel_checker.proofs.slack.has_slack.Given as goal

abbrev pub invariant-loop-i : goal.invariant-loop-i
invariant-loop-i l = (k : ℕ) (e : ℕ × ℤ) → k < l.i → IsNear l.sense l.n l.prices l.own_value (slice_index_or l.row k e)
