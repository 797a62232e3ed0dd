use Rattle.std.proofs.Common.{◌∙◌}
use Rattle.std.proofs.lemmas.List.{with_items_is}
use Rattle.hungarian.proofs.Assigned.{end_within, flippable, planned_next, raise_fits, assigned_next}
use Rattle.std.specs.Vec.{with_items}
use Rattle.hungarian.proofs.solver.give.Goals as goal

pub raise-requires-clause-end : goal.raise-requires-clause-end
raise-requires-clause-end c =
    rw c.as_slice-to_objects.ensures.value
    (end_within c.args.lists.now c.args.plan.now c.args.tree.now c.args.person c.args.end
    c.persons-persons.ensures.rule c.requires.plan c.requires.person c.requires.tree c.requires.end)

pub raise-requires-clause-fits : goal.raise-requires-clause-fits
raise-requires-clause-fits c =
    rw (c.as_slice-to_objects.ensures.value, c.as_slice-ranks.ensures.value)
    (raise_fits c.args.lists.now c.args.plan.now c.args.tree.now c.args.person c.args.end
    c.persons-persons.ensures.rule c.requires.plan c.requires.person c.requires.tree c.requires.end)

pub augment-requires : goal.augment-requires
augment-requires c =
    let raised = rw (
      c.as_mut_slice.ensures.value,
      c.as_slice-to_objects.ensures.value,
      c.as_slice-ranks.ensures.value,
    ) at c.raise.ensures in
    rw (
      c.as_mut_slice-2.ensures.value,
      c.as_mut_slice-3.ensures.value,
      c.as_slice.ensures.value,
      c.as_slice-ranks.ensures.value,
    )
    (flippable c.args.lists.now c.args.plan.now c.args.tree.now c.args.person c.args.end
    c.persons-persons.ensures.rule c.requires.plan c.requires.person c.requires.tree c.requires.end
    c.raise.new.prices raised)

pub returns-clause-plan : goal.returns-clause-plan
returns-clause-plan c =
    let plan = c.args.plan.now in
    let raised = rw (
      c.as_mut_slice.ensures.value,
      c.as_slice-to_objects.ensures.value,
      c.as_slice-ranks.ensures.value,
    ) at c.raise.ensures in
    let flips = rw (
      c.as_mut_slice-2.ensures.value,
      c.as_mut_slice-3.ensures.value,
      c.as_slice.ensures.value,
      c.as_slice-ranks.ensures.value,
    ) at c.augment.ensures in
    planned_next c.args.lists.now plan c.args.tree.now c.args.person c.args.end c.persons-persons.ensures.rule
    c.requires.plan c.requires.person c.requires.tree c.requires.end
    c.raise.new.prices raised _ c.augment.new.owners c.augment.new.objects
    (with_items_is plan.prices c.raise.new.prices (c.raise.auto.prices ∙ c.as_mut_slice.ensures.len))
    (with_items_is plan.owners c.augment.new.owners (c.augment.auto.owners ∙ c.as_mut_slice-2.ensures.len))
    (with_items_is plan.objects c.augment.new.objects (c.augment.auto.objects ∙ c.as_mut_slice-3.ensures.len))
    (rw c.as_mut_slice.ensures.value at c.raise.auto.prices)
    (rw c.as_mut_slice-2.ensures.value at c.augment.auto.owners)
    (rw c.as_mut_slice-3.ensures.value at c.augment.auto.objects)
    flips c.requires.assigned

pub returns-clause-assigned : goal.returns-clause-assigned
returns-clause-assigned c =
    let plan = c.args.plan.now in
    let raised = rw (
      c.as_mut_slice.ensures.value,
      c.as_slice-to_objects.ensures.value,
      c.as_slice-ranks.ensures.value,
    ) at c.raise.ensures in
    let flips = rw (
      c.as_mut_slice-2.ensures.value,
      c.as_mut_slice-3.ensures.value,
      c.as_slice.ensures.value,
      c.as_slice-ranks.ensures.value,
    ) at c.augment.ensures in
    assigned_next c.args.lists.now plan c.args.tree.now c.args.person c.args.end c.persons-persons.ensures.rule
    c.requires.plan c.requires.person c.requires.tree c.requires.end
    c.raise.new.prices raised (record plan {
      prices = with_items plan.prices c.raise.new.prices;
      owners = with_items plan.owners c.augment.new.owners;
      objects = with_items plan.objects c.augment.new.objects;
    })
    c.augment.new.owners c.augment.new.objects
    (with_items_is plan.prices c.raise.new.prices (c.raise.auto.prices ∙ c.as_mut_slice.ensures.len))
    (with_items_is plan.owners c.augment.new.owners (c.augment.auto.owners ∙ c.as_mut_slice-2.ensures.len))
    (with_items_is plan.objects c.augment.new.objects (c.augment.auto.objects ∙ c.as_mut_slice-3.ensures.len))
    (rw c.as_mut_slice.ensures.value at c.raise.auto.prices)
    (rw c.as_mut_slice-2.ensures.value at c.augment.auto.owners)
    (rw c.as_mut_slice-3.ensures.value at c.augment.auto.objects)
    flips c.requires.assigned
