use Rattle.std.proofs.Common.{List, length, subst}
use lib.Ieee.{Float}
use Rattle.double_costs.proofs.DoublePairs.{part_length}
use Rattle.double_checker.specs.inside.Pairs.{row_part}
use Rattle.block_doubles.specs.inside.Places.{IsFirstUnder, NoneBelow, number_at}
use Rattle.block_doubles.proofs.BestPairs.{above_more, first_pair}
use Rattle.block_doubles.proofs.better.first_better.Goals as goal

pub returns-in-Some : goal.returns-in-Some
returns-in-Some c =
    let i = c.loop-i.i in
    let v = number_at c.args.sense c.args.number_costs.now c.args.number_prices.now i in
    first_pair c.args.sense c.args.costs.now c.args.prices.now c.args.number_costs.now c.args.number_prices.now
    (length c.args.objects.now) i c.in-Some.object c.loop-i-test.true c.loop-i.invariant
    (subst (λ (row : List Float). IsFirstUnder c.args.sense (number_at c.args.sense c.args.number_costs.now c.args.number_prices.now c.loop-i.i)
    row c.args.prices.now c.in-Some.object) c.row_part-row.ensures c.in-Some.ensures)

pub loop-i-preserved : goal.loop-i-preserved
loop-i-preserved c =
    let i = c.loop-i.i in
    let m = length c.args.prices.now in
    let wide = part_length (length c.args.objects.now) (length c.args.prices.now) c.loop-i.i c.args.costs.now c.requires.long c.loop-i-test.true in
    let none = subst (λ (row : List Float). NoneBelow c.args.sense (number_at c.args.sense c.args.number_costs.now c.args.number_prices.now c.loop-i.i)
    row c.args.prices.now (length row)) c.row_part-row.ensures c.in_default.ensures in
    above_more c.args.sense c.args.costs.now c.args.prices.now c.args.number_costs.now c.args.number_prices.now i c.loop-i.invariant
    (subst (NoneBelow c.args.sense (number_at c.args.sense c.args.number_costs.now c.args.number_prices.now c.loop-i.i)
    (row_part (length c.args.prices.now) c.loop-i.i c.args.costs.now) c.args.prices.now) wide none)
