use Rattle.std.proofs.Common.{arith, rules, ap, ◌∙◌, pos, ◌-ℤ◌, SFits}
use Rattle.std.specs.Int.{w128}
use Rattle.std.proofs.lemmas.Int.{ints, to_z-of_z}
use Rattle.assign_core.specs.Assignment.{total}
use Rattle.cost_lists.specs.Own.{minimised}
use Rattle.cost_lists.proofs.Owns.{total_turned}
use Rattle.wide_checker.proofs.total.total_of.Goals as goal

pub returns-in-Min : goal.returns-in-Min
returns-in-Min c = λ rows xs own listed.
    let fits : SFits w128 c.sum_of_costs-sum.result = search rules in
    let is = total_turned c.args.sense rows xs c.args.own.now own listed in
    let sense = ap (λ s. minimised s (total rows xs)) c.in-Min.is in
    simp to_z-of_z (c.sum_of_costs-sum.ensures.sum ∙ is ∙ sense)

pub returns-in-Max : goal.returns-in-Max
returns-in-Max c = λ rows xs own listed.
    let fits : SFits w128 c.sum_of_costs-sum.result = search rules in
    let is = total_turned c.args.sense rows xs c.args.own.now own listed in
    let sense = ap (λ s. minimised s (total rows xs)) c.in-Max.is in
    let low = c.sum_of_costs-sum.ensures.least in
    let high = c.sum_of_costs-sum.ensures.greatest in
    let sum = c.sum_of_costs-sum.ensures.sum ∙ is ∙ sense in
    let back : SFits w128 (pos 0 -ℤ c.sum_of_costs-sum.result) = omega (arith, ints) in
    simp to_z-of_z (omega (arith, ints, sum))
