use Rattle.std.proofs.Common.{◌≡◌, ℕ, pos, ◌<◌, get_or, length}
use Rattle.assign_core.specs.Assignment.{IsAssignment, total}
use Rattle.ranking_checker.specs.Ranking.{plan_of}
use Rattle.ranking_checker.proofs.totals.totals_of.Given as goal

abbrev pub invariant-loop-t : goal.invariant-loop-t
invariant-loop-t l = record {
  long : length l.totals.items ≡ l.t;
  assigned : (k : ℕ) → k < l.t → IsAssignment l.lists.rows (plan_of l.tree.n k l.tree.plans.now);
  cost : (k : ℕ) → k < l.t → get_or l.totals.items k (pos 0) ≡ total l.lists.rows (plan_of l.tree.n k l.tree.plans.now);
}
