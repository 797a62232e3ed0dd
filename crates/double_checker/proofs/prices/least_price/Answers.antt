use Rattle.double_checker.proofs.Unmarked.{least_so_far, one_so_far}
use Rattle.double_checker.proofs.prices.least_price.Goals as goal

pub loop-k-preserved : goal.loop-k-preserved
loop-k-preserved c =
    let i = c.loop-k.invariant in
    let l = c.lesser-least.ensures in
    record {
      finite = l.finite;
      each = least_so_far c.args.prices.now c.loop-k.least c.lesser-least.result c.loop-k.k i.each l.first l.second;
      one = one_so_far c.args.prices.now c.loop-k.least c.lesser-least.result c.loop-k.k c.loop-k-test.true i.one l.one;
    }
