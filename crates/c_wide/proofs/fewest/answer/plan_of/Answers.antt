use Rattle.std.proofs.Common.{rules, length, ap, sym, subst, ◌∙◌, SFits}
use Rattle.std.specs.Int.{w64}
use Rattle.std.specs.Prelude.{IsSome}
use Rattle.std.proofs.lemmas.Int.{to_z-of_z}
use Rattle.assign_core.specs.Assignment.{AreListed, total}
use Rattle.assign_core.specs.Rows.{listed_in}
use Rattle.assign_core.proofs.Listed.{length_zip}
use Rattle.c_wide.specs.declared.fewest.answer.FewestPlan.{FewestPlan}
use Rattle.c_wide.specs.fewest.Changes.{changes}
use Rattle.c_wide.proofs.FewestEnds.{listed_there, plan_there}
use Rattle.c_wide.proofs.fewest.answer.plan_of.Goals as goal

pub total-requires : goal.total-requires
total-requires c =
    let l = c.args.lists.now in
    subst (AreListed l.rows) (sym c.as_slice.ensures.value)
    (listed_there l c.args.kept.now _ c.requires.kept c.requires.optimum.assigned.listed)

pub changes_of-changes-requires : goal.changes_of-changes-requires
changes_of-changes-requires c =
    let l = c.args.lists.now in
    let listed = listed_there l c.args.kept.now _ c.requires.kept c.requires.optimum.assigned.listed in
    let long = length_zip (λ row j. IsSome (listed_in row j)) l.rows _ listed in
    c.requires.kept ∙ long ∙ sym (ap length c.as_slice-2.ensures.value)

pub returns : goal.returns
returns c =
    let l = c.args.lists.now in
    let kept = c.args.kept.now in
    let plan : FewestPlan = record {
      objects = c.args.objects;
      prices = c.args.prices;
      total = c.in_ok-total.total;
      changes = c.changes_of-changes.result;
    } in
    let fits : SFits w64 c.in_ok-total.total = search rules in
    simp to_z-of_z (plan_there l kept plan c.requires.kept c.requires.optimum c.requires.best
    (c.in_ok-total.ensures ∙ ap (total l.rows) c.as_slice.ensures.value)
    (c.changes_of-changes.ensures ∙ ap (changes kept) c.as_slice-2.ensures.value))
