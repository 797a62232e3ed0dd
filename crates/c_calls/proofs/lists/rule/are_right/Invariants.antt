use Rattle.std.proofs.Common.{ℕ, ◌<◌, get_or, IsTrue}
use Rattle.c_calls.proofs.lists.rule.are_right.Given as goal

abbrev pub invariant-loop-i : goal.invariant-loop-i
invariant-loop-i g l = IsTrue l.right → (k : ℕ) (d : g.row.T.Denot) → k < l.i → g.R.Rule.is_right l.rule (get_or l.all k d)
