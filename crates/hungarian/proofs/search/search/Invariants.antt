use Rattle.std.proofs.Common.{◌-◌}
use Rattle.hungarian.specs.inside.Stored.{IsSearching}
use Rattle.hungarian.proofs.search.search.Given as goal

abbrev pub invariant-loop-rank : goal.invariant-loop-rank
invariant-loop-rank l = record {
  searching : IsSearching l.fn.lists l.fn.plan l.person (l.rank - 1) l.tree;
}
