use Rattle.std.proofs.Common.{◌≡◌, ◌-◌, ◌<◌, ℕ, List, length}
use Rattle.ranking_checker.specs.inside.Trees.{Obey, leaf_of, leaf_upto}
use Rattle.ranking_checker.proofs.limits.limits_of.Given as goal

abbrev pub invariant-loop-step : goal.invariant-loop-step
invariant-loop-step l = record {
  below : l.part < l.tree.count;
  kept : length l.limits.kept.items ≡ l.tree.n;
  obey : (ys : List ℕ) → leaf_of l.tree ys ≡ l.fn.place → (leaf_upto l.tree ys (l.tree.count - l.step) ≡ l.part) × Obey ys l.limits.kept.items l.limits.closed.items;
}
