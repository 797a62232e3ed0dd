use Rattle.std.proofs.Common.{inr, refl, rules, SFits}
use Rattle.std.specs.Int.{w32}
use Rattle.std.proofs.lemmas.Int.{to_z-of_z}
use Rattle.c_plans.specs.Next.{next_buffers}
use Rattle.c_plans.proofs.Refusals.{next_refused}
use Rattle.c_plans.proofs.next_plan.next_on.Goals as goal

pub returns-in-Err-next_after : goal.returns-in-Err-next_after
returns-in-Err-next_after c =
    let fits : SFits w32 c.refuse-in-Err-next_after.result = search rules in
    simp to_z-of_z (inr (next_refused c.args.input.now
    (next_buffers c.args.other.now c.args.margin.now c.args.info.now)
    (next_buffers c.args.other.now c.args.margin.now c.refuse-in-Err-next_after.new.info)
    c.refuse-in-Err-next_after.result c.in-Ok.ensures.whole c.refuse-in-Err-next_after.ensures.code refl refl c.refuse-in-Err-next_after.ensures.place))
