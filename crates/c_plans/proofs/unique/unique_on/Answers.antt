use Rattle.std.proofs.Common.{inr, refl, rules, SFits}
use Rattle.std.specs.Int.{w32}
use Rattle.std.proofs.lemmas.Int.{to_z-of_z}
use Rattle.c_plans.proofs.Refusals.{memory_refused}
use Rattle.c_plans.proofs.unique.unique_on.Goals as goal

pub returns-in-Err-decide : goal.returns-in-Err-decide
returns-in-Err-decide c =
    let fits : SFits w32 c.refuse-in-Err-decide.result = search rules in
    simp to_z-of_z (inr (memory_refused c.args.input.now
    (record { other = c.args.other.now; ranks = c.args.ranks.now; info = c.args.info.now })
    (record { other = c.args.other.now; ranks = c.args.ranks.now; info = c.refuse-in-Err-decide.new.info })
    c.refuse-in-Err-decide.result c.in-Ok.ensures.whole c.refuse-in-Err-decide.ensures.code refl refl c.refuse-in-Err-decide.ensures.place))
