use Rattle.std.proofs.Common.{◌+ℤ◌, rules, arith, SFits}
use Rattle.std.specs.Int.{w128}
use Rattle.std.proofs.lemmas.Int.{ints, to_z-of_z}
use Rattle.double_checker.proofs.PartSums.{settled_high, settled_low, unsettled}
use Rattle.double_checker.proofs.sums.joined.Goals as goal
use Rattle.double_checker.proofs.sums.joined.Goals.{then-x-via-then-x, then-x-via-else-x+then-x-ge-SETTLED}

pub returns-then-x-clause-tells : goal.returns-then-x-clause-tells
returns-then-x-clause-tells c = λ total room enough most told.
    let f : SFits w128 c.args.x.count = search rules in
    let x = c.args.x in
    let y = c.args.y in
    elim c.then-x.branch [
      | then-x-via-then-x w ↦ let h = w.if-x.true in
          simp to_z-of_z (settled_low room total x y c.requires.order c.requires.y enough most (omega (arith, ints)) told)
      | then-x-via-else-x+then-x-ge-SETTLED w ↦ let h = w.if-x-ge-SETTLED.true in
          simp to_z-of_z (settled_high room total x y c.requires.order c.requires.y enough most (omega (arith, ints)) told)
    ]

pub returns-clause-tells : goal.returns-clause-tells
returns-clause-tells c = λ total room enough most told.
    let x = c.args.x in
    let y = c.args.y in
    let low = c.times_power.ensures.least in
    let high = c.times_power.ensures.most in
    let ylow = c.requires.y.low in
    let yhigh = c.requires.y.high in
    let a = c.if-x.false in
    let b = c.if-x-ge-SETTLED.false in
    let f : SFits w128 c.times_power.result = omega (arith, ints) in
    let own : SFits w128 c.args.x.count = search rules in
    let is = simp to_z-of_z at c.times_power.ensures.is in
    let g : SFits w128 c.args.y.count = omega (arith, ints) in
    let k : SFits w128 (c.times_power.result +ℤ c.args.y.count) = omega (arith, ints) in
    simp to_z-of_z (unsettled room total c.times_power.result c.min-by.result x y c.requires.order c.requires.y enough most
    (omega (arith, ints)) (omega (arith, ints)) c.min-by.ensures is told)
