use Rattle.std.proofs.Common.{List, length, subst}
use lib.Ieee.{Float}
use Rattle.double_costs.specs.Units.{units_of}
use Rattle.double_checker.specs.inside.Plans.{IsRowSeen, own_place}
use Rattle.double_checker.proofs.RowSteps.{rows_more}
use Rattle.double_checker.proofs.rows.are_rows_seen.Goals as goal

pub loop-i-preserved : goal.loop-i-preserved
loop-i-preserved c =
    let margin = units_of c.args.margin in
    let xs = c.args.objects.now in
    rows_more c.args.sense margin (length c.args.prices.now) c.args.costs.now xs c.args.prices.now
    c.loop-i.by_margin c.in_ok-seen.seen c.both-by_margin.result c.loop-i.i c.both-by_margin.ensures
    c.loop-i.invariant
    (subst (λ (r : List Float). IsRowSeen c.args.sense margin r c.args.prices.now (own_place xs c.loop-i.i)
    c.in_ok-seen.seen) c.row_part-row.ensures c.in_ok-seen.ensures)
