use Rattle.std.proofs.Common.{◌≡◌, pos, ◌-ℤ◌, arith, to_z, SFits}
use Rattle.std.specs.Int.{w128}
use Rattle.std.proofs.lemmas.Int.{ints, to_z-of_z, to_z_pos}
use Rattle.double_costs.specs.Units.{units_of}
use Rattle.double_checker.proofs.PartSums.{negative_part}
use Rattle.double_checker.proofs.sums.part_of.Goals as goal

pub returns-then-d-clause-units : goal.returns-then-d-clause-units
returns-then-d-clause-units c =
    let d = c.digits_of-d.result in
    let few = c.digits_of-d.ensures.few in
    let p : to_z w128 c.digits_of-d.result.digits ≡ pos c.digits_of-d.result.digits = to_z_pos w128 c.digits_of-d.result.digits (omega (arith, few)) in
    let g : SFits w128 (pos 0 -ℤ pos c.digits_of-d.result.digits) = omega (arith, ints) in
    rw p (simp to_z-of_z (negative_part c.digits_of-d.result (units_of c.args.x) c.digits_of-d.ensures.units c.if-d.true))
