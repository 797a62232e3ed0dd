use Rattle.std.proofs.Common.{◌≡◌, ◌+◌, ◌∷◌, ◌++◌, [], drop, rules, arith, sym, ap, ◌∙◌, append_assoc, subst, SFits}
use Rattle.std.proofs.lemmas.Int.{to_z-of_z}
use Rattle.std.proofs.lemmas.List.{drop_more}
use Rattle.std.specs.Int.{w64}
use Rattle.assign_core.specs.Rows.{Listing, IsCost}
use Rattle.assign_core.specs.Benefits.{benefit, benefit_row}
use Rattle.scaled_values.specs.inside.Range.{widened}
use Rattle.scaled_values.proofs.Ranges.{range_next}
use Rattle.scaled_values.proofs.row.pairs_of.Goals as goal

pub benefit-benefit-requires-clause-cost : goal.benefit-benefit-requires-clause-cost
benefit-benefit-requires-clause-cost c =
    let cost = c.requires.row.costs c.loop-object.object-index c.loop-object-item.result c.loop-object-test.true in
    let fits : SFits w64 c.loop-object-item.result.1 = search rules in
    simp to_z-of_z (subst (λ e. IsCost e.1) (sym c.loop-object-item.is) cost)

pub loop-object-preserved : goal.loop-object-preserved
loop-object-preserved c =
    let e = c.loop-object-item.result in
    let row = c.args.row.now in
    let i = c.loop-object.object-index in
    let before = c.loop-object.pairs.items in
    let inv = c.loop-object.invariant in
    let rest : Listing = benefit_row c.args.sense c.args.n (drop (i + 1) row) in
    let fits : SFits w64 c.benefit-benefit.result = search rules in
    let cost_fits : SFits w64 e.1 = search rules in
    let value : c.benefit-benefit.result ≡ benefit c.args.sense c.args.n e.1 = simp to_z-of_z at c.benefit-benefit.ensures.value in
    let items : c.push_reserved.new.self.items ≡ before ++ (e.0, c.benefit-benefit.result) ∷ [] = simp to_z-of_z at c.push_reserved.ensures.items in
    let wider : c.widened-range.result ≡ widened c.loop-object.range c.benefit-benefit.result = simp to_z-of_z at c.widened-range.ensures in
    record {
      pairs =
          ap (λ l. l ++ rest) items
          ∙ append_assoc before ((e.0, c.benefit-benefit.result) ∷ []) rest
          ∙ ap (λ v. before ++ (e.0, v) ∷ rest) value
          ∙ ap (λ f. before ++ (f.0, benefit c.args.sense c.args.n f.1) ∷ rest) c.loop-object-item.is
          ∙ ap (λ l. before ++ benefit_row c.args.sense c.args.n l) (sym (drop_more row i e c.loop-object-test.true))
          ∙ inv.pairs;
      range = range_next c.args.sense c.args.n row i e c.loop-object.range c.widened-range.result
          c.benefit-benefit.result c.loop-object-test.true c.loop-object-item.is value wider ∙ inv.range;
      long = omega (arith, c.push_reserved.ensures.len, inv.long);
      room = c.push_reserved.ensures.capacity ∙ inv.room;
    }
