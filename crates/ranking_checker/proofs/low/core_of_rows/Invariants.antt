use Rattle.std.proofs.Common.{length}
use Rattle.ranking_checker.specs.inside.Adding.{AreOfRows}
use Rattle.ranking_checker.specs.inside.Bases.{IsLow, cut_pair_at}
use Rattle.ranking_checker.proofs.low.core_of_rows.Given as goal

abbrev pub invariant-loop-i : goal.invariant-loop-i
invariant-loop-i l = AreOfRows (IsLow l.base) (cut_pair_at (length l.base.prices.now) l.costs) l.i (length l.base.prices.now) l.pairs.items
