use Rattle.std.proofs.Common.{◌≢◌, List, ◌<◌, length, arith, subst, below_more}
use Rattle.std.proofs.lemmas.List.{get_or-set_other, get_or-set_same}
use lib.Ieee.{Float, nan}
use Rattle.block_doubles.specs.inside.Places.{IsBestOf}
use Rattle.block_doubles.proofs.BestPairs.{whole_row}
use Rattle.double_checker.specs.inside.Pairs.{row_part}
use Rattle.block_doubles.proofs.least.set_least.Goals as goal

pub loop-i-preserved : goal.loop-i-preserved
loop-i-preserved c =
    let i = c.loop-i.i in
    let best = c.least_of_row-best.result in
    let room : i < length c.loop-i.objects = let long = c.loop-i.auto.objects in omega arith in
    let too : i < length c.loop-i.paid = let long = c.loop-i.auto.objects in let l = c.loop-i.auto.paid in omega arith in
    let row = row_part (length c.args.prices.now) c.loop-i.i c.args.costs.now in
    let found = subst (λ (r : List Float). IsBestOf c.args.sense r c.args.prices.now (length r) c.least_of_row-best.result)
    c.row_part.ensures c.least_of_row-best.ensures in
    let here = whole_row c.args.sense row c.args.prices.now best found in
    below_more _ _
    (λ k h. let ne : k ≢ i = omega arith in
    rw (get_or-set_other c.loop-i.objects i k best.object 0 ne, get_or-set_other c.loop-i.paid i k best.cost nan ne) (c.loop-i.invariant k h))
    (rw (get_or-set_same c.loop-i.objects i best.object 0 room, get_or-set_same c.loop-i.paid i best.cost nan too) here)
