use Rattle.std.proofs.Common.{inr, refl, rules, SFits}
use Rattle.std.specs.Int.{w32}
use Rattle.std.proofs.lemmas.Int.{to_z-of_z}
use Rattle.c_wide.proofs.Refusals.{memory_refused}
use Rattle.c_wide.proofs.solve.solve_wide.Goals as goal

pub returns-in-Err-answer_of : goal.returns-in-Err-answer_of
returns-in-Err-answer_of c =
    let fits : SFits w32 c.refuse-in-Err-answer_of.result = search rules in
    simp to_z-of_z (inr (
      memory_refused c.args.input.now c.args.info.now c.refuse-in-Err-answer_of.new.info
          c.refuse-in-Err-answer_of.result c.in-Ok.ensures.whole c.refuse-in-Err-answer_of.ensures.code c.refuse-in-Err-answer_of.ensures.place,
      refl,
    ))
