use Rattle.std.proofs.Common.{inr, rules, SFits}
use Rattle.std.specs.Int.{w32}
use Rattle.std.proofs.lemmas.Int.{to_z-of_z}
use Rattle.c_wide.proofs.Refusals.{memory_refused}
use Rattle.c_wide.proofs.check.wide_verdict_on.Goals as goal

pub returns-in-Err-check : goal.returns-in-Err-check
returns-in-Err-check c =
    let fits : SFits w32 c.refuse-in-Err-check.result = search rules in
    simp to_z-of_z (inr (memory_refused c.args.input.now c.args.info.now c.refuse-in-Err-check.new.info
    c.refuse-in-Err-check.result c.in-Ok.ensures.whole c.refuse-in-Err-check.ensures.code c.refuse-in-Err-check.ensures.place))
