use Rattle.std.proofs.Common.{◌+ℤ◌, rules, SFits}
use mir.Syntax.{w128}
use Rattle.std.proofs.lemmas.Int.{to_z-of_z}
use Rattle.hungarian.proofs.Relaxed.{tests_sum}
use Rattle.hungarian.proofs.relaxing.is_nearer.Goals as goal

pub returns : goal.returns
returns c =
    let f = c.ranges.cost in
    let g = c.ranges.price in
    let h = c.ranges.other_cost in
    let k = c.ranges.other_price in
    let a : SFits w128 c.wide_sum-sum.result = search rules in
    let b : SFits w128 c.wide_sum-other.result = search rules in
    let one = simp to_z-of_z at c.wide_sum-sum.ensures in
    let two = simp to_z-of_z at c.wide_sum-other.ensures in
    simp to_z-of_z (tests_sum c.wide_sum-sum.result c.wide_sum-other.result (c.args.cost +ℤ c.args.price)
    (c.args.other_cost +ℤ c.args.other_price) one two)
