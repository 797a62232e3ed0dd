use Rattle.std.proofs.Common.{◌≢◌, List, ◌<◌, length, get_or, arith, subst, below_more}
use Rattle.std.proofs.lemmas.List.{get_or-set_other, get_or-set_same}
use lib.Ieee.{Float}
use Rattle.block_doubles.specs.inside.Places.{IsMarkAt, number_at}
use Rattle.block_doubles.proofs.marks.set_marks.Goals as goal

pub loop-i-preserved : goal.loop-i-preserved
loop-i-preserved c =
    let i = c.loop-i.i in
    let mark = c.mark_of.result in
    let room : i < length c.loop-i.marks = let long = c.loop-i.auto.marks in omega arith in
    let here = subst (λ (r : List Float). IsMarkAt c.args.sense (number_at c.args.sense c.args.number_costs.now c.args.number_prices.now c.loop-i.i)
    r c.args.prices.now (get_or c.args.objects.now c.loop-i.i 0) c.mark_of.result) c.row_part-row.ensures c.mark_of.ensures in
    below_more _ _
    (λ k h. let ne : k ≢ i = omega arith in rw (get_or-set_other c.loop-i.marks i k mark 0 ne) (c.loop-i.invariant k h))
    (rw (get_or-set_same c.loop-i.marks i mark 0 room) here)
