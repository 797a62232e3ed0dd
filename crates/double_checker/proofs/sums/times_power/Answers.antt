use Rattle.std.proofs.Common.{pos, ◌*ℤ◌, ◌^◌, arith, SFits}
use Rattle.std.specs.Int.{w128}
use Rattle.std.proofs.lemmas.Int.{ints, to_z-of_z}
use Rattle.double_checker.proofs.PartSums.{power_is, product_from, product_to}
use Rattle.double_checker.proofs.sums.times_power.Goals as goal

pub returns-clause-least : goal.returns-clause-least
returns-clause-least c =
    let f : SFits w128 c.args.count = omega (arith, ints, c.requires.low, c.requires.high) in
    let low = product_from c.args.by c.args.count c.requires.by c.requires.low in
    let high = product_to c.args.by c.args.count c.requires.by c.requires.high in
    let g : SFits w128 (pos (2 ^ c.args.by) *ℤ c.args.count) = omega (arith, ints) in
    rw (power_is c.args.by c.requires.by) (simp to_z-of_z low)

pub returns-clause-most : goal.returns-clause-most
returns-clause-most c =
    let f : SFits w128 c.args.count = omega (arith, ints, c.requires.low, c.requires.high) in
    let low = product_from c.args.by c.args.count c.requires.by c.requires.low in
    let high = product_to c.args.by c.args.count c.requires.by c.requires.high in
    let g : SFits w128 (pos (2 ^ c.args.by) *ℤ c.args.count) = omega (arith, ints) in
    rw (power_is c.args.by c.requires.by) (simp to_z-of_z high)
