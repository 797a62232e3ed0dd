use Rattle.std.proofs.Common.{◌-ℤ◌, arith, ap}
use Rattle.std.proofs.lemmas.Int.{ints, to_z-of_z}
use mir.Val.{SFits}
use mir.Syntax.{w64}
use Rattle.scaled_values.specs.Scaled.{spread}
use Rattle.scaled_values.proofs.BenefitRange.{kept}
use Rattle.scaled_values.proofs.scaled.Scaled.spread.Goals as goal

pub overflow_sub-result : goal.overflow_sub-result
overflow_sub-result c = let k = kept _ _ _ _ c.self.invariant in omega (arith, ints)

pub returns-clause-value : goal.returns-clause-value
returns-clause-value c =
    let k = kept _ _ _ _ c.self.invariant in
    let least_fits : SFits w64 c.self.inside.least = omega (arith, ints) in
    let greatest_fits : SFits w64 c.self.inside.greatest = omega (arith, ints) in
    let fits : SFits w64 (c.self.inside.greatest -ℤ c.self.inside.least) = omega (arith, ints) in
    simp to_z-of_z (rw (c.self.invariant.least, c.self.invariant.greatest) (ap spread c.self.view_is))

pub returns-clause-least : goal.returns-clause-least
returns-clause-least c = let k = kept _ _ _ _ c.self.invariant in omega (arith, ints)

pub returns-clause-greatest : goal.returns-clause-greatest
returns-clause-greatest c = let k = kept _ _ _ _ c.self.invariant in omega (arith, ints)
