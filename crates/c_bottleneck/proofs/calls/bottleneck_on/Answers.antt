use Rattle.std.proofs.Common.{inr, refl, rules, SFits}
use Rattle.std.specs.Int.{w32}
use Rattle.std.proofs.lemmas.Int.{to_z-of_z}
use Rattle.c_bottleneck.specs.Bottleneck.{buffers}
use Rattle.c_bottleneck.proofs.Refusals.{memory_refused}
use Rattle.c_bottleneck.proofs.calls.bottleneck_on.Goals as goal

pub returns-in-Err-search_from-clause-finds : goal.returns-in-Err-search_from-clause-finds
returns-in-Err-search_from-clause-finds c =
    let fits : SFits w32 c.refuse-in-Err-search_from.result = search rules in
    simp to_z-of_z (inr (memory_refused c.args.input.now
    (buffers c.args.objects.now c.args.persons.now c.args.few.now c.args.info.now)
    (buffers c.args.objects.now c.args.persons.now c.args.few.now c.refuse-in-Err-search_from.new.info)
    c.refuse-in-Err-search_from.result c.in-Ok.ensures.whole c.refuse-in-Err-search_from.ensures.code refl refl refl c.refuse-in-Err-search_from.ensures.place))
