use Rattle.std.proofs.Common.{[]}
use Rattle.ranking_checker.specs.inside.Adding.{AddsFrom}
use Rattle.ranking_checker.specs.inside.Bases.{IsLow, listed_pair}
use Rattle.ranking_checker.proofs.low.core_of_pairs.Given as goal

abbrev pub invariant-loop-k : goal.invariant-loop-k
invariant-loop-k l = AddsFrom (IsLow l.base) (listed_pair l.listed) l.k [] l.pairs.items
