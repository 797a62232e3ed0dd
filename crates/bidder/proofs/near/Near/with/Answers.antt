use Rattle.std.proofs.lemmas.Int.{to_z-of_z}
use Rattle.bidder.proofs.Nears.{near_with}
use Rattle.bidder.proofs.near.Near.with.Goals as goal

pub returns : goal.returns
returns c = λ row narrow benefit is up worth.
    let v = c.ranges.value in
    let above = simp to_z-of_z at c.best_is_below-is_best.ensures in
    let next = simp to_z-of_z at c.second_is_below-is_second.ensures in
    let best = simp to_z-of_z at c.with_best-best.ensures in
    let second = simp to_z-of_z at c.with_second-second.ensures in
    rw (c.one_of.ensures, c.one_of-lower.ensures, best, second) (near_with row narrow c.args.self c.args.object c.args.value benefit
    c.best_is_below-is_best.result c.second_is_below-is_second.result is up worth above next)
