use Rattle.std.proofs.Common.{[]}
use Rattle.ranking_checker.specs.inside.Adding.{AddsFrom}
use Rattle.ranking_checker.specs.inside.Core.{pair_at}
use Rattle.ranking_checker.specs.inside.Trees.{CanHave}
use Rattle.ranking_checker.proofs.part.pairs_of.Given as goal

abbrev pub invariant-loop-k : goal.invariant-loop-k
invariant-loop-k l = AddsFrom (CanHave l.limits.kept.items l.limits.closed.items) (pair_at l.core) l.k [] l.pairs.items
