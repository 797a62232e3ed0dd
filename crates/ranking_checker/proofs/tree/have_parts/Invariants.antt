use Rattle.std.proofs.Common.{◌≡◌, ℕ, ◌<◌}
use Rattle.ranking_checker.specs.Ranking.{plan_of}
use Rattle.ranking_checker.specs.inside.Trees.{leaf_of}
use Rattle.ranking_checker.proofs.tree.have_parts.Given as goal

abbrev pub invariant-loop-t : goal.invariant-loop-t
invariant-loop-t l = (k : ℕ) → k < l.t → leaf_of l.tree (plan_of l.tree.n k l.tree.plans.now) ≡ k
