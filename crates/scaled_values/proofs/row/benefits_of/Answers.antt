use Rattle.std.proofs.Common.{◌≡◌, ◌+◌, ◌∷◌, ◌++◌, List, [], ℤ, drop, map, rules, arith, sym, ap, ◌∙◌, append_assoc, subst, SFits}
use Rattle.std.proofs.lemmas.Int.{to_z-of_z}
use Rattle.std.specs.Int.{w64}
use Rattle.assign_core.specs.Rows.{IsCost}
use Rattle.assign_core.specs.Benefits.{benefit, benefit_row}
use Rattle.scaled_values.specs.inside.Range.{widened}
use Rattle.scaled_values.proofs.Ranges.{range_next, values_next}
use Rattle.scaled_values.proofs.row.benefits_of.Goals as goal

pub benefit-benefit-requires-clause-cost : goal.benefit-benefit-requires-clause-cost
benefit-benefit-requires-clause-cost c =
    let cost = c.requires.row.costs c.loop-cost.cost-index c.loop-cost-item.result c.loop-cost-test.true in
    let fits : SFits w64 c.loop-cost-item.result.1 = search rules in
    simp to_z-of_z (subst (λ e. IsCost e.1) (sym c.loop-cost-item.is) cost)

pub loop-cost-preserved : goal.loop-cost-preserved
loop-cost-preserved c =
    let e = c.loop-cost-item.result in
    let row = c.args.row.now in
    let i = c.loop-cost.cost-index in
    let before = c.loop-cost.benefits.items in
    let inv = c.loop-cost.invariant in
    let rest : List ℤ = map (λ f. f.1) (benefit_row c.args.sense c.args.n (drop (i + 1) row)) in
    let fits : SFits w64 c.benefit-benefit.result = search rules in
    let cost_fits : SFits w64 e.1 = search rules in
    let value : c.benefit-benefit.result ≡ benefit c.args.sense c.args.n e.1 = simp to_z-of_z at c.benefit-benefit.ensures.value in
    let items : c.push_reserved.new.self.items ≡ before ++ c.benefit-benefit.result ∷ [] = simp to_z-of_z at c.push_reserved.ensures.items in
    let wider : c.widened-range.result ≡ widened c.loop-cost.range c.benefit-benefit.result = simp to_z-of_z at c.widened-range.ensures in
    record {
      benefits =
          ap (λ l. l ++ rest) items
          ∙ append_assoc before (c.benefit-benefit.result ∷ []) rest
          ∙ ap (λ v. before ++ v ∷ rest) value
          ∙ ap (λ l. before ++ l) (sym (values_next c.args.sense c.args.n row i e c.loop-cost-test.true c.loop-cost-item.is))
          ∙ inv.benefits;
      range = range_next c.args.sense c.args.n row i e c.loop-cost.range c.widened-range.result
          c.benefit-benefit.result c.loop-cost-test.true c.loop-cost-item.is value wider ∙ inv.range;
      long = omega (arith, c.push_reserved.ensures.len, inv.long);
      room = c.push_reserved.ensures.capacity ∙ inv.room;
    }
