use Rattle.std.proofs.Common.{inr, rules, sym, subst, SFits}
use Rattle.std.specs.Int.{w32}
use Rattle.std.proofs.lemmas.Int.{to_z-of_z}
use Rattle.cost_lists.specs.ListedCosts.{ListedCosts}
use Rattle.c_calls.specs.declared.fault.Fault.TheVariants.{Memory}
use Rattle.c_wide.specs.declared.fewest.kept.Refusal.TheVariants.{Given}
use Rattle.c_wide.specs.fewest.Answers.{IsFewestAnswer}
use Rattle.c_wide.proofs.FewestEnds.{memory_after_kept, refused, reported}
use Rattle.c_wide.proofs.fewest.solve.fewest_on.Goals as goal

pub returns-in-Err : goal.returns-in-Err
returns-in-Err c =
    let fits : SFits w32 c.refuse_kept.result = search rules in
    simp to_z-of_z (inr (
    refused c.args.input.now c.args.kept.now c.in-Err.refusal c.args.objects.now c.args.persons.now c.args.prices.now c.args.changed.now
    c.args.info.now c.refuse_kept.new.info c.refuse_kept.result c.refuse_kept.ensures.code c.in-Err.ensures.refusal c.refuse_kept.ensures.names
    ))

pub put_fewest-requires-clause-answer : goal.put_fewest-requires-clause-answer
put_fewest-requires-clause-answer c =
    subst (λ (l : ListedCosts). IsFewestAnswer l c.args.kept.now c.in-Ok-fewest_of.answer) (sym c.lists_of-lists.ensures.lists) c.in-Ok-fewest_of.ensures

pub returns-in-Ok-fewest_of : goal.returns-in-Ok-fewest_of
returns-in-Ok-fewest_of c =
    let fits : SFits w32 c.put_fewest.result = search rules in
    simp to_z-of_z (reported c.in-Ok.shape.sense c.args.input.now c.args.kept.now c.lists_of-lists.result _ _ c.put_fewest.result
    c.in-Ok.ensures.shape.wanted c.in-Ok.ensures.whole c.in-Ok.ensures.kept c.lists_of-lists.ensures.lists c.put_fewest.ensures)

pub returns-in-Err-fewest_of : goal.returns-in-Err-fewest_of
returns-in-Err-fewest_of c =
    let fits : SFits w32 c.refuse_kept-in-Err-fewest_of.result = search rules in
    simp to_z-of_z (inr (
    refused c.args.input.now c.args.kept.now (Given Memory) c.args.objects.now c.args.persons.now c.args.prices.now c.args.changed.now
    c.args.info.now c.refuse_kept-in-Err-fewest_of.new.info c.refuse_kept-in-Err-fewest_of.result
    c.refuse_kept-in-Err-fewest_of.ensures.code
    (memory_after_kept c.args.input.now c.args.kept.now c.in-Ok.ensures.whole c.in-Ok.ensures.kept)
    c.refuse_kept-in-Err-fewest_of.ensures.names
    ))
