use Rattle.std.proofs.Common.{arith, rules, SFits}
use Rattle.std.specs.Int.{w64}
use Rattle.std.proofs.lemmas.Int.{ints, to_z-of_z}
use Rattle.bidder.proofs.Nears.{near_kept}
use Rattle.bidder.proofs.near.Near.read.Goals as goal

pub returns-then-value-self : goal.returns-then-value-self
returns-then-value-self c = λ row is up.
    let f : SFits w64 c.args.self.second = search rules in
    let g = c.ranges.benefit in
    let v : SFits w64 c.value_of-value.result = search rules in
    let worth = simp to_z-of_z at c.value_of-value.ensures in
    near_kept row c.args.narrow.now c.args.self c.args.object c.value_of-value.result c.args.benefit is up
    worth (grind (arith, ints, c.if-value-self.true))

pub returns : goal.returns
returns c = λ row is up.
    let g = c.ranges.benefit in
    let v : SFits w64 c.value_of-value.result = search rules in
    let worth = simp to_z-of_z at c.value_of-value.ensures in
    c.with.ensures row c.args.narrow.now c.args.benefit is up (simp to_z-of_z worth)
