use Rattle.std.proofs.Common.{◌≡◌, ◌+◌, ◌-◌, pos, ◌≤ℤ◌, ◌+ℤ◌, below_more, get_or, arith, rules, ap, sym, subst, SFits, w64}
use Rattle.std.proofs.lemmas.Bool.{and_parts}
use Rattle.std.proofs.lemmas.Int.{to_z-of_z}
use Rattle.cost_lists.specs.Own.{minimised}
use Rattle.plan_checker.proofs.rows.all_reach.Goals as goal

pub loop-j-preserved : goal.loop-j-preserved
loop-j-preserved c = (λ yes.
    let p = c.args.plan in
    let j = c.loop-j.j in
    let row = c.args.row.now in
    let both = and_parts c.reaches-all.result c.loop-j.all yes in
    let f : SFits w64 (get_or row j (pos 0)) = search rules in
    let g : SFits w64 (get_or p.prices.now j (pos 0)) = search rules in
    let s = c.ranges.sum in
    let b : SFits w64 p.bound = search rules in
    let here = simp to_z-of_z at c.reaches-all.ensures in
    let back : (j + 1) - 1 ≡ j = omega arith in
    let price = ap (λ k. get_or p.prices.now k (pos 0)) back in
    below_more _ _ (c.loop-j.invariant both.1) (λ low.
    simp to_z-of_z (subst (λ q. (c.args.sum +ℤ p.bound) ≤ℤ (minimised p.sense (get_or row j (pos 0)) +ℤ q)) (sym price) (here both.0))))
