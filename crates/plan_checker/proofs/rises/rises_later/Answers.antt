use Rattle.std.proofs.Common.{◌≡◌, ℕ, pos, ◌-◌, ◌+◌, below_more, get_or, refl, arith, rules, subst, sym, ◌∙◌, SFits, w32, w64}
use mathlib.Core.Bool.{true≢false}
use Rattle.std.proofs.lemmas.Int.{ints, to_z-of_z}
use Rattle.assign_core.specs.declared.sense.Sense.TheVariants.{Min}
use Rattle.assign_core.specs.Rows.{IsCost}
use Rattle.plan_checker.proofs.Later.{IsOpenBefore, cheaper, dearer, open_by_all}
use Rattle.plan_checker.proofs.Reading.{sum_in}
use Rattle.plan_checker.proofs.rises.rises_later.Goals as goal

pub sum_of-own_sum-requires-clause-cost : goal.sum_of-own_sum-requires-clause-cost
sum_of-own_sum-requires-clause-cost c =
    let a : SFits w64 (get_or c.args.plan.own.now (c.args.person - 1) (pos 0)) = search rules in
    let cost : IsCost (get_or c.args.plan.own.now (c.args.person - 1) (pos 0)) = search rules in
    simp to_z-of_z cost

pub returns-then-sum-own_sum : goal.returns-then-sum-own_sum
returns-then-sum-own_sum c =
    let p = c.args.plan in
    let i = c.args.person in
    let k = c.args.object in
    let cost = c.args.cost in
    let t = c.loop-list.list in
    let f = c.ranges.cost in
    let a : SFits w64 (get_or p.own.now (i - 1) (pos 0)) = search rules in
    let s : SFits w64 c.sum_of-sum.result = search rules in
    let u : SFits w64 c.sum_of-own_sum.result = search rules in
    let v : SFits w64 c.other_price.result = search rules in
    let w : SFits w64 c.other_price-in-loop-list.result = search rules in
    let b : SFits w64 p.bound = search rules in
    let sum = simp to_z-of_z at c.sum_of-sum.ensures in
    let own_sum = simp to_z-of_z at c.sum_of-own_sum.ensures in
    let price = c.other_price.ensures.price in
    let own_price = c.other_price-in-loop-list.ensures.price in
    let before : IsOpenBefore p i k cost t = simp to_z-of_z at c.loop-list.invariant in
    let less = simp to_z-of_z at c.if-sum-own_sum.true in
    ((λ e. absurd (true≢false (sym e))), (λ r. absurd (cheaper p i k cost t c.loop-list-test.true before (omega (arith, ints)) r)))

pub is_below-requires-clause-sum : goal.is_below-requires-clause-sum
is_below-requires-clause-sum c =
    let f = c.ranges.cost in
    let s : SFits w64 c.sum_of-sum.result = search rules in
    let v : SFits w64 c.other_price.result = search rules in
    let sum = simp to_z-of_z at c.sum_of-sum.ensures in
    let limits = c.other_price.ensures.in_limits in
    simp to_z-of_z (sum_in c.args.plan.sense c.args.cost c.other_price.result c.sum_of-sum.result c.requires.cost limits sum)

pub is_below-requires-clause-own_sum : goal.is_below-requires-clause-own_sum
is_below-requires-clause-own_sum c =
    let p = c.args.plan in
    let i = c.args.person in
    let a : SFits w64 (get_or p.own.now (i - 1) (pos 0)) = search rules in
    let u : SFits w64 c.sum_of-own_sum.result = search rules in
    let w : SFits w64 c.other_price-in-loop-list.result = search rules in
    let cost : IsCost (get_or p.own.now (i - 1) (pos 0)) = search rules in
    let own_sum = simp to_z-of_z at c.sum_of-own_sum.ensures in
    let limits = c.other_price-in-loop-list.ensures.in_limits in
    simp to_z-of_z (sum_in Min (get_or p.own.now (i - 1) (pos 0)) c.other_price-in-loop-list.result c.sum_of-own_sum.result cost limits own_sum)

pub returns-then-not-is_below : goal.returns-then-not-is_below
returns-then-not-is_below c =
    let p = c.args.plan in
    let i = c.args.person in
    let k = c.args.object in
    let cost = c.args.cost in
    let t = c.loop-list.list in
    let f = c.ranges.cost in
    let a : SFits w64 (get_or p.own.now (i - 1) (pos 0)) = search rules in
    let s : SFits w64 c.sum_of-sum.result = search rules in
    let u : SFits w64 c.sum_of-own_sum.result = search rules in
    let v : SFits w64 c.other_price.result = search rules in
    let w : SFits w64 c.other_price-in-loop-list.result = search rules in
    let b : SFits w64 p.bound = search rules in
    let sum = simp to_z-of_z at c.sum_of-sum.ensures in
    let own_sum = simp to_z-of_z at c.sum_of-own_sum.ensures in
    let price = c.other_price.ensures.price in
    let own_price = c.other_price-in-loop-list.ensures.price in
    let before : IsOpenBefore p i k cost t = simp to_z-of_z at c.loop-list.invariant in
    let most = simp to_z-of_z at c.if-sum-own_sum.false in
    let below = simp to_z-of_z at c.is_below.ensures in (
      (λ _. dearer p i k cost t c.loop-list-test.true before (omega (arith, ints))
          (λ low. true≢false (sym (below.1 (omega (arith, ints))) ∙ c.if-not-is_below.true))),
      (λ _. refl),
    )

pub loop-list-preserved : goal.loop-list-preserved
loop-list-preserved c =
    let p = c.args.plan in
    let i = c.args.person in
    let k = c.args.object in
    let cost = c.args.cost in
    let t = c.loop-list.list in
    let f = c.ranges.cost in
    let a : SFits w64 (get_or p.own.now (i - 1) (pos 0)) = search rules in
    let s : SFits w64 c.sum_of-sum.result = search rules in
    let u : SFits w64 c.sum_of-own_sum.result = search rules in
    let v : SFits w64 c.other_price.result = search rules in
    let w : SFits w64 c.other_price-in-loop-list.result = search rules in
    let b : SFits w64 p.bound = search rules in
    let sum = simp to_z-of_z at c.sum_of-sum.ensures in
    let own_sum = simp to_z-of_z at c.sum_of-own_sum.ensures in
    let price = c.other_price.ensures.price in
    let own_price = c.other_price-in-loop-list.ensures.price in
    let before : IsOpenBefore p i k cost t = simp to_z-of_z at c.loop-list.invariant in
    let most = simp to_z-of_z at c.if-sum-own_sum.false in
    let below = simp to_z-of_z at c.is_below.ensures in
    let low = below.0 c.if-not-is_below.false in
    let more : IsOpenBefore p i k cost (t + 1) = below_more _ _ before (omega (arith, ints), omega (arith, ints)) in
    simp to_z-of_z more

pub returns : goal.returns
returns c =
    let p = c.args.plan in
    let i = c.args.person in
    let k = c.args.object in
    let cost = c.args.cost in
    let f = c.ranges.cost in
    let own : ℕ = get_or p.objects.now (i - 1) 0 in
    let q : SFits w32 (get_or p.ranks.now (own - 1) (pos 0)) = search rules in
    let r : SFits w32 (get_or p.ranks.now (k - 1) (pos 0)) = search rules in
    let before : IsOpenBefore p i k cost c.loop-list.list = simp to_z-of_z at c.loop-list.invariant in
    let ended : c.loop-list.list ≡ p.count = search rules in
    let same = open_by_all p i k cost (subst (IsOpenBefore p i k cost) ended before) in
    let above = simp to_z-of_z at c.is_above.ensures in
    ((λ yes. same.1 (above.0 yes)), (λ later. above.1 (same.0 later)))
