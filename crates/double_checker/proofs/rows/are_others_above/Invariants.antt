use Rattle.std.proofs.Common.{◌≡◌, ◌+ℤ◌, true}
use Rattle.double_costs.specs.Units.{units_of}
use Rattle.double_checker.specs.inside.Pairs.{AreAbove}
use Rattle.double_checker.proofs.rows.are_others_above.Given as goal

abbrev pub invariant-loop-k : goal.invariant-loop-k
invariant-loop-k l = l.holds ≡ true →
    AreAbove l.sense (units_of l.base +ℤ units_of l.margin) l.row l.prices l.own l.k
