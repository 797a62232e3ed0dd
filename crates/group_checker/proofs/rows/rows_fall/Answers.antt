use Rattle.std.proofs.Common.{below_more, subst, ◌+◌}
use Rattle.group_checker.specs.inside.Reading.{RowFalls}
use Rattle.group_checker.proofs.rows.rows_fall.Goals as goal

pub loop-i-preserved : goal.loop-i-preserved
loop-i-preserved c =
    below_more _ _ c.loop-i.invariant (subst (RowFalls c.args.plan (c.loop-i.i + 1)) c.part.ensures (c.falls_below.ensures c.if-not-falls_below.false))
