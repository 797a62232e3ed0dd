use Rattle.std.proofs.Common.{ℕ, pos, ◌-◌, get_or, arith, rules, SFits, w64}
use Rattle.std.proofs.lemmas.Int.{ints, to_z-of_z}
use Rattle.assign_core.specs.declared.sense.Sense.TheVariants.{Min}
use Rattle.assign_core.specs.Rows.{IsCost}
use Rattle.cost_lists.specs.Exact.{IsPriceInLimits}
use Rattle.plan_checker.proofs.Reading.{sum_in}
use Rattle.ranking_checker.proofs.low.is_low.Goals as goal

pub sum_of-own_sum-requires-clause-cost : goal.sum_of-own_sum-requires-clause-cost
sum_of-own_sum-requires-clause-cost c =
    let a : SFits w64 (get_or c.args.base.own.now (c.args.person - 1) (pos 0)) = search rules in
    let cost : IsCost (get_or c.args.base.own.now (c.args.person - 1) (pos 0)) = search rules in
    simp to_z-of_z cost

pub is_below-requires-clause-sum : goal.is_below-requires-clause-sum
is_below-requires-clause-sum c =
    let p = c.args.base in
    let f = c.ranges.cost in
    let b : SFits w64 (get_or p.prices.now (c.args.object - 1) (pos 0)) = search rules in
    let s : SFits w64 c.sum_of-sum.result = search rules in
    let price : IsPriceInLimits (get_or p.prices.now (c.args.object - 1) (pos 0)) = search rules in
    let sum = simp to_z-of_z at c.sum_of-sum.ensures in
    simp to_z-of_z (sum_in p.sense c.args.cost (get_or p.prices.now (c.args.object - 1) (pos 0)) c.sum_of-sum.result c.requires.cost price sum)

pub is_below-requires-clause-own_sum : goal.is_below-requires-clause-own_sum
is_below-requires-clause-own_sum c =
    let p = c.args.base in
    let i = c.args.person in
    let own : ℕ = get_or p.objects.now (i - 1) 0 in
    let a : SFits w64 (get_or p.own.now (i - 1) (pos 0)) = search rules in
    let d : SFits w64 (get_or p.prices.now (own - 1) (pos 0)) = search rules in
    let s : SFits w64 c.sum_of-own_sum.result = search rules in
    let cost : IsCost (get_or p.own.now (i - 1) (pos 0)) = search rules in
    let price : IsPriceInLimits (get_or p.prices.now (own - 1) (pos 0)) = search rules in
    let sum = simp to_z-of_z at c.sum_of-own_sum.ensures in
    simp to_z-of_z (sum_in Min (get_or p.own.now (i - 1) (pos 0)) (get_or p.prices.now (own - 1) (pos 0)) c.sum_of-own_sum.result cost price sum)

pub returns : goal.returns
returns c =
    let p = c.args.base in
    let i = c.args.person in
    let own : ℕ = get_or p.objects.now (i - 1) 0 in
    let f = c.ranges.cost in
    let a : SFits w64 (get_or p.own.now (i - 1) (pos 0)) = search rules in
    let b : SFits w64 (get_or p.prices.now (c.args.object - 1) (pos 0)) = search rules in
    let d : SFits w64 (get_or p.prices.now (own - 1) (pos 0)) = search rules in
    let s : SFits w64 c.sum_of-sum.result = search rules in
    let t : SFits w64 c.sum_of-own_sum.result = search rules in
    let u : SFits w64 p.bound = search rules in
    let sum = simp to_z-of_z at c.sum_of-sum.ensures in
    let own_sum = simp to_z-of_z at c.sum_of-own_sum.ensures in
    let below = simp to_z-of_z at c.is_below.ensures in
    ((λ yes. let low = below.0 yes in omega (arith, ints)), (λ low. below.1 (omega (arith, ints))))
