use Rattle.std.proofs.Common.{arith, rules, SFits, w64}
use Rattle.std.proofs.lemmas.Int.{ints, to_z-of_z}
use Rattle.group_checker.proofs.shown.is_shown.Goals as goal

pub returns : goal.returns
returns c =
    let f = c.ranges.cost in
    let s : SFits w64 c.other_sum.result = search rules in
    let t : SFits w64 c.own_sum.result = search rules in
    let up = simp to_z-of_z at c.if-other_sum-own_sum.false in
    let sum = simp to_z-of_z at c.other_sum.ensures in
    let own = c.own_sum.ensures in
    (λ yes. record { own = c.if-plan-person.false; other = c.if-object-from.false; good = omega (arith, ints) })
