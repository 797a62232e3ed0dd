use Rattle.std.proofs.Common.{ℕ, pos, ◌<◌, ◌+◌, get_or}
use Rattle.assign_core.specs.Assignment.{IsNoWorse}
use Rattle.ranking_checker.proofs.totals.rise.Given as goal

abbrev pub invariant-loop-t : goal.invariant-loop-t
invariant-loop-t l = (k : ℕ) → k + 1 < l.t → IsNoWorse l.sense (get_or l.totals k (pos 0)) (get_or l.totals (k + 1) (pos 0))
