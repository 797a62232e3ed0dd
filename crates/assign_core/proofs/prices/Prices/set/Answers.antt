use Rattle.std.proofs.Common.{◌<◌, length, ap, arith, rules, SFits}
use Rattle.std.specs.Int.{w64}
use Rattle.std.proofs.lemmas.Int.{to_z-of_z}
use Rattle.assign_core.proofs.Narrowed.{pair_set}
use Rattle.assign_core.proofs.prices.Prices.set.Goals as goal

pub invariant_of-self : goal.invariant_of-self
invariant_of-self c =
    let prices = c.self.inside.values.items in
    let f = c.ranges.price in
    let g : SFits w64 c.narrow_of.result = search rules in
    let view = ap length c.self.view_is in
    let at : c.place-place.result < length prices = omega (arith, view, c.requires.object.first, c.requires.object.last, c.place-place.ensures) in
    simp to_z-of_z (pair_set prices c.self.inside.narrow.items (c.place-place.result)
    c.args.price c.narrow_of.result at c.requires.price c.narrow_of.ensures.range
    (simp to_z-of_z at c.narrow_of.ensures.below) c.self.invariant)
