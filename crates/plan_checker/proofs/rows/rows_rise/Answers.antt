use Rattle.std.proofs.Common.{below_more, subst, ◌+◌}
use Rattle.plan_checker.specs.inside.Rises.{RowRises}
use Rattle.plan_checker.proofs.rows.rows_rise.Goals as goal

pub loop-i-preserved : goal.loop-i-preserved
loop-i-preserved c =
    below_more _ _ c.loop-i.invariant (subst (RowRises c.args.plan (c.loop-i.i + 1)) c.part.ensures (c.row_rises.ensures.0 c.if-not-row_rises.false))
