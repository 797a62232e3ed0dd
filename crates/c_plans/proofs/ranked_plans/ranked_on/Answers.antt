use Rattle.std.proofs.Common.{inl, inr, refl, rules, subst, SFits}
use Rattle.std.specs.Int.{w32}
use Rattle.std.proofs.lemmas.Int.{to_z-of_z}
use Rattle.c_calls.specs.lists.Faults.{IsOfInput}
use Rattle.c_plans.specs.Ranked.{IsRankedShown, ranked_buffers}
use Rattle.c_plans.proofs.Refusals.{ranked_refused}
use Rattle.c_plans.proofs.ranked_plans.ranked_on.Goals as goal

pub returns-in-Ok-ranked_after : goal.returns-in-Ok-ranked_after
returns-in-Ok-ranked_after c =
    let fits : SFits w32 c.put_ranked.result = search rules in
    let before = ranked_buffers c.args.plans.now c.args.totals.now c.args.found.now c.args.info.now in
    let after = ranked_buffers c.put_ranked.new.plans c.put_ranked.new.totals c.put_ranked.new.found c.put_ranked.new.info in
    let shown : IsOfInput c.args.input.now (λ l. IsRankedShown l c.args.objects.now c.args.prices.now before after c.put_ranked.result) = record {
      sense = c.in-Ok.shape.sense;
      wanted = c.in-Ok.ensures.shape.wanted;
      whole = c.in-Ok.ensures.whole;
      holds = subst (λ l. IsRankedShown l c.args.objects.now c.args.prices.now before after c.put_ranked.result) c.lists_of-lists.ensures.lists c.put_ranked.ensures;
    } in
    simp to_z-of_z (inl shown)

pub returns-in-Err-ranked_after : goal.returns-in-Err-ranked_after
returns-in-Err-ranked_after c =
    let fits : SFits w32 c.refuse-in-Err-ranked_after.result = search rules in
    simp to_z-of_z (inr (ranked_refused c.args.input.now
    (ranked_buffers c.args.plans.now c.args.totals.now c.args.found.now c.args.info.now)
    (ranked_buffers c.args.plans.now c.args.totals.now c.args.found.now c.refuse-in-Err-ranked_after.new.info)
    c.refuse-in-Err-ranked_after.result c.in-Ok.ensures.whole c.refuse-in-Err-ranked_after.ensures.code refl refl refl c.refuse-in-Err-ranked_after.ensures.place))
