use Rattle.std.proofs.Common.{arith}
use Rattle.std.proofs.lemmas.Int.{ints, to_z-of_z}
use mir.Val.{SFits}
use mir.Syntax.{w64}
use Rattle.scaled_values.proofs.BenefitRange.{kept}
use Rattle.scaled_values.proofs.scaled.Scaled.greatest_benefit.Goals as goal

pub returns-clause-range : goal.returns-clause-range
returns-clause-range c =
    let k = kept _ _ _ _ c.self.invariant in
    let fits : SFits w64 c.self.inside.greatest = omega (arith, ints) in
    simp to_z-of_z k.greatest
