use Rattle.std.proofs.Common.{◌≡◌, pos, ◌-◌, ◌+ℤ◌, ◌-ℤ◌, ◌*ℤ◌, length, rules, arith, ap, ◌∙◌}
use Rattle.std.proofs.lemmas.Int.{ints, to_z-of_z}
use mir.Val.{SFits}
use mir.Syntax.{w64, w128}
use Rattle.scaled_values.specs.Scaled.{spread, least_benefit}
use Rattle.scaled_values.proofs.scaled.Scaled.floor.Goals as goal

pub overflow_sub-result-2 : goal.overflow_sub-result-2
overflow_sub-result-2 c =
    let low = c.least_benefit.ensures.range in
    let fits : SFits w64 c.least_benefit.result = search rules in
    let from = c.from.ensures in
    let price = c.requires.price in
    let least = c.steps.ensures.least in
    let greatest = c.steps.ensures.greatest in
    omega (arith, ints)

pub returns : goal.returns
returns c =
    let low = c.least_benefit.ensures.range in
    let low_fits : SFits w64 c.least_benefit.result = search rules in
    let from : c.from.result ≡ c.least_benefit.result = simp to_z-of_z at c.from.ensures in
    let eps_fits = c.ranges.eps in
    let step_fits : SFits w64 c.step.result = search rules in
    let step : c.step.result ≡ spread c.args.self.now +ℤ c.args.eps = simp to_z-of_z at c.step.ensures.value in
    let steps : c.steps.result ≡ pos (c.n.result - 1) *ℤ c.step.result = simp to_z-of_z at c.steps.ensures.value in
    let price_fits = c.ranges.p0 in
    let price = c.requires.price in
    let least = c.steps.ensures.least in
    let greatest = c.steps.ensures.greatest in
    let from_fits : SFits w128 c.from.result = omega (arith, ints) in
    let steps_fits : SFits w128 c.steps.result = omega (arith, ints) in
    let inner_fits : SFits w128 (c.from.result -ℤ c.args.p0) = omega (arith, ints) in
    let outer_fits : SFits w128 (c.from.result -ℤ c.args.p0 -ℤ c.steps.result) = omega (arith, ints) in
    simp to_z-of_z
    (ap (λ x. x -ℤ c.args.p0 -ℤ c.steps.result) (from ∙ c.least_benefit.ensures.value)
    ∙ ap (λ x. least_benefit c.args.self.now -ℤ c.args.p0 -ℤ x) (steps ∙ ap (λ m. pos (m - 1) *ℤ c.step.result)
    c.n.ensures.count ∙ ap (λ x. pos (length c.args.self.now.problem - 1) *ℤ x) step))
