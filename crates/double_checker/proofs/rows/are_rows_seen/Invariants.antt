use Rattle.std.proofs.Common.{length}
use Rattle.double_costs.specs.Units.{units_of}
use Rattle.double_checker.specs.inside.Plans.{AreRowsSeen}
use Rattle.double_checker.proofs.rows.are_rows_seen.Given as goal

abbrev pub invariant-loop-i : goal.invariant-loop-i
invariant-loop-i l = AreRowsSeen l.sense (units_of l.margin) (length l.prices) l.costs l.objects l.prices l.by_margin
    l.i
