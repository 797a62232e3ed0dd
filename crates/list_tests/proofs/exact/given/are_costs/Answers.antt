use Rattle.std.proofs.Common.{pos, get_or, refl, arith, rules, subst, below_more, SFits, w64}
use Rattle.std.proofs.lemmas.Int.{to_z-of_z}
use Rattle.std.proofs.lemmas.List.{get_or_default}
use Rattle.assign_core.specs.Rows.{IsCost}
use Rattle.list_tests.proofs.exact.given.are_costs.Goals as goal

pub loop-cost-preserved : goal.loop-cost-preserved
loop-cost-preserved c =
    let fits : SFits w64 (get_or c.args.costs.now c.loop-cost.cost-index (pos 0)) = search rules in
    let says = simp to_z-of_z at c.is_cost.ensures in
    below_more _ _ c.loop-cost.invariant (says.0 (rw c.if-not-is_cost.false refl))

pub returns : goal.returns
returns c = λ t k d lt. subst IsCost (get_or_default c.args.costs.now k (pos 0) d lt) (c.loop-cost.invariant k (omega (arith, c.loop-cost-test.false)))
