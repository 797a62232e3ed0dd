use Rattle.std.proofs.Common.{pos, ◌-ℤ◌, ◌<◌, arith, SFits}
use Rattle.std.specs.Int.{w128}
use Rattle.std.proofs.lemmas.Int.{ints, to_z-of_z}
use Rattle.double_checker.proofs.Scales.{positive_scaled, negative_scaled}
use Rattle.double_checker.proofs.digits.scaled.Goals as goal

pub returns-then-d-clause-value : goal.returns-then-d-clause-value
returns-then-d-clause-value c =
    let value = c.shifted-size.ensures.value in
    let below = c.shifted-size.ensures.below in
    let some : 0 < c.args.d.digits = (let h = c.if-d-eq0.false in omega arith) in
    let f : SFits w128 c.shifted-size.result = omega (arith, ints) in
    let g : SFits w128 (pos 0 -ℤ c.shifted-size.result) = omega (arith, ints) in
    simp to_z-of_z (negative_scaled c.args.d c.args.low c.shifted-size.result (c.requires.least some) value c.if-d.true)

pub returns-else-d-clause-value : goal.returns-else-d-clause-value
returns-else-d-clause-value c =
    let value = c.shifted-size.ensures.value in
    let below = c.shifted-size.ensures.below in
    let some : 0 < c.args.d.digits = (let h = c.if-d-eq0.false in omega arith) in
    let f : SFits w128 c.shifted-size.result = omega (arith, ints) in
    simp to_z-of_z (positive_scaled c.args.d c.args.low c.shifted-size.result (c.requires.least some) value
    c.if-d.false)
