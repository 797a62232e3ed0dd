use Rattle.std.proofs.Common.{◌≡◌, ◌≤◌, ◌+◌, ◌-◌, pos, below_more, get_or, arith, rules, ap, sym, ◌∙◌, subst, SFits, w64}
use Rattle.std.proofs.lemmas.Bool.{and_parts}
use Rattle.std.proofs.lemmas.Int.{to_z-of_z}
use Rattle.std.proofs.lemmas.List.{get_or_default}
use Rattle.std.proofs.Common.{◌≤ℤ◌, ◌+ℤ◌}
use Rattle.assign_core.proofs.NumberedLemmas.{numbered-next}
use Rattle.cost_lists.specs.Own.{minimised}
use Rattle.group_checker.specs.inside.Reading.{group_at, sum_to}
use Rattle.group_checker.proofs.rows.part_falls.Goals as goal

pub loop-j-preserved : goal.loop-j-preserved
loop-j-preserved c = (λ yes.
    let p = c.args.plan in
    let j = c.loop-j.j in
    let row = c.args.row.now in
    let both = and_parts c.is_behind-all.result c.loop-j.all yes in
    let f : SFits w64 (get_or row j (pos 0)) = search rules in
    let g : SFits w64 (get_or p.prices.now j (pos 0)) = search rules in
    let s = c.ranges.sum in
    let here = simp to_z-of_z at c.is_behind-all.ensures in
    let back : (j + 1) - 1 ≡ j = omega arith in
    let price = ap (λ k. get_or p.prices.now k (pos 0)) back in
    let number : group_at p (j + 1) ≡ get_or p.groups.now j 0 =
    numbered-next p.groups.now j p.out ∙ get_or_default p.groups.now j p.out 0 (search rules) in
    below_more _ _ (c.loop-j.invariant both.1) (λ low up.
    let worth = simp to_z-of_z at up in
    subst (λ k. k ≤ c.args.group) (sym number)
    (here both.0 (subst (λ q. (minimised p.sense (get_or row j (pos 0)) +ℤ q) ≤ℤ c.args.sum) price worth))))
