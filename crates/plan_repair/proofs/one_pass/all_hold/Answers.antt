use Rattle.std.proofs.Common.{pos, ◌+ℤ◌, ◌≤ℤ◌, ◌<◌, length, get_or, rules, subst, below_more, to_z, of_z, SFits, w64}
use Rattle.std.proofs.lemmas.Bool.{and_parts}
use Rattle.std.proofs.lemmas.Int.{to_z-of_z}
use Rattle.std.proofs.lemmas.List.{get_or_default}
use Rattle.assign_core.specs.Rows.{IsCost}
use Rattle.cost_lists.specs.Own.{minimised}
use Rattle.exact_checker.specs.inside.Sums.{sum_at}
use Rattle.plan_repair.proofs.one_pass.all_hold.Goals as goal

pub loop-j-preserved : goal.loop-j-preserved
loop-j-preserved c =
    let j = c.loop-j.j in
    let costs = c.args.costs.now in
    let prices = c.args.prices.now in
    let sense = c.args.sense in
    let room : j < length costs = c.loop-j-test.true in
    let x : SFits w64 (get_or costs j (pos 0)) = search rules in
    let y : SFits w64 (get_or prices j (pos 0)) = search rules in
    let cost = to_z-of_z w64 (get_or costs j (pos 0)) x in
    let price = to_z-of_z w64 (get_or prices j (pos 0)) y in
    record {
      costs = λ both k d lt.
          let p = and_parts c.holds-all.result c.loop-j.all both in
          let here : IsCost (get_or costs j (pos 0)) = subst IsCost cost (c.holds-all.ensures.cost p.0) in
          let own : IsCost (get_or costs j d) = subst IsCost (get_or_default costs j (pos 0) d room) here in
          below_more (λ q. IsCost (get_or costs q d)) j (λ q below. c.loop-j.invariant.costs p.1 q d below) own k lt;
      sums = λ both.
          let p = and_parts c.holds-all.result c.loop-j.all both in
          below_more (λ q. to_z w64 (of_z w64 c.args.value) ≤ℤ sum_at sense costs prices q) j (c.loop-j.invariant.sums p.1)
          (subst (λ a. to_z w64 (of_z w64 c.args.value) ≤ℤ (minimised sense a +ℤ get_or prices j (pos 0))) cost
          (subst (λ a. to_z w64 (of_z w64 c.args.value) ≤ℤ (minimised sense (to_z w64 (of_z w64 (get_or costs j (pos 0)))) +ℤ a)) price
          (c.holds-all.ensures.sum p.0)));
    }
