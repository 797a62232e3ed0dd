use Rattle.std.proofs.Common.{◌≡◌, ◌+ℤ◌, true}
use Rattle.double_costs.specs.Units.{units_of}
use Rattle.double_checker.specs.inside.Pairs.{AreAbove, AreAtLeast, at, paid}
use Rattle.double_checker.proofs.rows.is_row_above.Given as goal

abbrev pub invariant-loop-k : goal.invariant-loop-k
invariant-loop-k l = record {
  least : AreAtLeast l.sense (paid l.sense (at l.row l.own) (at l.prices l.own)) l.row l.prices l.k;
  above : l.by_margin ≡ true → AreAbove l.sense (units_of l.base +ℤ units_of l.margin) l.row l.prices l.own l.k;
}
