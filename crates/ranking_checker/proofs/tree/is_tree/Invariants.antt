use Rattle.std.proofs.Common.{ℕ, ◌<◌, get_or}
use Rattle.assign_core.specs.Numbered.{IsNumber}
use Rattle.ranking_checker.proofs.tree.is_tree.Given as goal

abbrev pub invariant-loop-u : goal.invariant-loop-u
invariant-loop-u l =
    (k : ℕ) → 0 < k → k < l.u → (get_or l.tree.parents.now k 0 < l.tree.count) × IsNumber l.tree.n (get_or l.tree.persons.now k 0)
