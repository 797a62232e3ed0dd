use Rattle.ranking_checker.specs.inside.Adding.{AddsFrom}
use Rattle.ranking_checker.specs.inside.Bases.{IsLow, row_pair}
use Rattle.ranking_checker.proofs.low.add_row.Given as goal

abbrev pub invariant-loop-j : goal.invariant-loop-j
invariant-loop-j l = AddsFrom (IsLow l.base) (row_pair l.person l.row) l.j l.initial.pairs.items l.pairs.items
