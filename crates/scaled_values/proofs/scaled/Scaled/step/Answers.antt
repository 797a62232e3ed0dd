use Rattle.std.proofs.Common.{◌+ℤ◌, rules, arith, ap, sym, subst}
use Rattle.std.proofs.lemmas.Int.{ints, to_z-of_z}
use mir.Val.{SFits}
use mir.Syntax.{w64}
use Rattle.scaled_values.specs.Scaled.{spread}
use Rattle.scaled_values.proofs.BenefitRange.{IsSpread}
use Rattle.scaled_values.proofs.EpsList.{IsStep, IsStep-spread}
use Rattle.scaled_values.proofs.scaled.Scaled.step.Goals as goal

step_is : (c : goal.After-spread) → IsStep (c.spread.result +ℤ c.args.eps)
step_is c =
    let range : IsSpread (spread c.args.self.now) = subst IsSpread c.spread.ensures.value
    (record { least = c.spread.ensures.least; greatest = c.spread.ensures.greatest }) in
    subst (λ d. IsStep (d +ℤ c.args.eps)) (sym c.spread.ensures.value) (IsStep-spread c.args.self.now c.args.eps range c.requires)

pub overflow_add-result : goal.overflow_add-result
overflow_add-result c = let s = step_is c in let f = c.ranges.eps in let g : SFits w64 c.spread.result = search rules in simp to_z-of_z (omega (arith, ints))

pub returns-clause-value : goal.returns-clause-value
returns-clause-value c =
    let s = step_is c in
    let f = c.ranges.eps in
    let g : SFits w64 c.spread.result = search rules in
    let h : SFits w64 (c.spread.result +ℤ c.args.eps) = omega (arith, ints) in
    simp to_z-of_z (ap (λ d. d +ℤ c.args.eps) c.spread.ensures.value)

pub returns-clause-least : goal.returns-clause-least
returns-clause-least c = let s = step_is c in let f = c.ranges.eps in let g : SFits w64 c.spread.result = search rules in omega (arith, ints)

pub returns-clause-greatest : goal.returns-clause-greatest
returns-clause-greatest c = let s = step_is c in let f = c.ranges.eps in let g : SFits w64 c.spread.result = search rules in omega (arith, ints)
