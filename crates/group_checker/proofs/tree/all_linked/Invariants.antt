use Rattle.std.proofs.Common.{ℕ, ◌<◌}
use Rattle.group_checker.specs.inside.Reading.{IsLinked}
use Rattle.group_checker.proofs.tree.all_linked.Given as goal

abbrev pub invariant-loop-v : goal.invariant-loop-v
invariant-loop-v l = (u : ℕ) → u < l.v → IsLinked l.is_forth l.lists l.plan l.tree l.roots u
