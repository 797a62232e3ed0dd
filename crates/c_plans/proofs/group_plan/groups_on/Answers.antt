use Rattle.std.proofs.Common.{inr, refl, rules, SFits}
use Rattle.std.specs.Int.{w32}
use Rattle.std.proofs.lemmas.Int.{to_z-of_z}
use Rattle.c_plans.proofs.Refusals.{groups_refused}
use Rattle.c_plans.proofs.group_plan.groups_on.Goals as goal

pub returns-in-Err-decide_groups : goal.returns-in-Err-decide_groups
returns-in-Err-decide_groups c =
    let fits : SFits w32 c.refuse-in-Err-decide_groups.result = search rules in
    simp to_z-of_z (inr (groups_refused c.args.input.now
    (record { groups = c.args.groups.now; info = c.args.info.now })
    (record { groups = c.args.groups.now; info = c.refuse-in-Err-decide_groups.new.info })
    c.refuse-in-Err-decide_groups.result c.in-Ok.ensures.whole c.refuse-in-Err-decide_groups.ensures.code refl c.refuse-in-Err-decide_groups.ensures.place))
