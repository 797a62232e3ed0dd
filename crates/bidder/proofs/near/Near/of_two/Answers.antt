use Rattle.std.proofs.Common.{arith}
use Rattle.std.proofs.lemmas.Int.{ints, to_z-of_z}
use Rattle.bidder.proofs.Nears.{near_first, near_later}
use Rattle.bidder.proofs.near.Near.of_two.Goals as goal

pub returns-then-other-value : goal.returns-then-other-value
returns-then-other-value c = λ narrow a b first next.
    let f = c.ranges.value in
    let g = c.ranges.other in
    simp to_z-of_z (near_later narrow c.args.first c.args.next c.args.value c.args.other a b c.requires first next (grind (arith, ints, c.if-other-value.true)))

pub returns-else-other-value : goal.returns-else-other-value
returns-else-other-value c = λ narrow a b first next.
    let f = c.ranges.value in
    let g = c.ranges.other in
    simp to_z-of_z (near_first narrow c.args.first c.args.next c.args.value c.args.other a b c.requires first next (grind (arith, ints, c.if-other-value.false)))
