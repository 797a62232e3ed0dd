use Rattle.std.proofs.Common.{ℕ, pos, ◌-◌, get_or, rules, SFits, w64}
use Rattle.std.proofs.lemmas.Int.{to_z-of_z}
use Rattle.assign_core.specs.declared.sense.Sense.TheVariants.{Min}
use Rattle.assign_core.specs.Rows.{IsCost}
use Rattle.cost_lists.specs.Exact.{IsPriceInLimits}
use Rattle.plan_checker.proofs.Reading.{sum_in}
use Rattle.plan_checker.proofs.rows.own_sum.Goals as goal

pub returns-clause-range : goal.returns-clause-range
returns-clause-range c =
    let p = c.args.plan in
    let i = c.args.person in
    let own : ℕ = get_or p.objects.now (i - 1) 0 in
    let a : SFits w64 (get_or p.own.now (i - 1) (pos 0)) = search rules in
    let d : SFits w64 (get_or p.prices.now (own - 1) (pos 0)) = search rules in
    let s : SFits w64 c.sum_of.result = search rules in
    let cost : IsCost (get_or p.own.now (i - 1) (pos 0)) = search rules in
    let price : IsPriceInLimits (get_or p.prices.now (own - 1) (pos 0)) = search rules in
    let sum = simp to_z-of_z at c.sum_of.ensures in
    simp to_z-of_z (sum_in Min (get_or p.own.now (i - 1) (pos 0)) (get_or p.prices.now (own - 1) (pos 0)) c.sum_of.result cost price sum)
