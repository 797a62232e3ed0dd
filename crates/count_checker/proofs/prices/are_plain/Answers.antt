use Rattle.std.proofs.Common.{arith, below_more}
use Rattle.count_checker.proofs.PairsRight.{right_if_plain}
use Rattle.count_checker.proofs.prices.are_plain.Goals as goal

pub loop-place-preserved : goal.loop-place-preserved
loop-place-preserved c = below_more _ _ c.loop-place.invariant (c.is_plain.ensures c.if-not-is_plain.false)

pub returns : goal.returns
returns c = λ _. right_if_plain c.args.lists c.args.plan.now c.requires.single c.args.row_prices.now c.args.column_prices.now
    (λ q inside. c.loop-place.invariant q (let t = c.loop-place-test.false in let e = c.loop-place.auto.place-end in omega arith))
