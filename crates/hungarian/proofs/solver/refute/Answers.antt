use Rattle.std.proofs.Common.{arith}
use Rattle.hungarian.proofs.Assigned.{objects_within, refuted}
use Rattle.hungarian.proofs.solver.refute.Goals as goal

pub hall_set-requires-clause-within : goal.hall_set-requires-clause-within
hall_set-requires-clause-within c =
    rw (c.as_slice-objects.ensures.value, c.as_slice-ranks.ensures.value)
    (objects_within c.args.lists.now c.args.plan.now c.args.tree.now c.args.person 0 c.requires.plan
    c.requires.tree)

pub hall_set-requires-clause-persons : goal.hall_set-requires-clause-persons
hall_set-requires-clause-persons c =
    rw c.as_slice-objects.ensures.value
    (let a = c.requires.plan.long.objects_long in let b = c.persons-persons.ensures.rule.persons.few in omega arith)

pub hall_set-requires-clause-objects : goal.hall_set-requires-clause-objects
hall_set-requires-clause-objects c =
    rw c.as_slice-ranks.ensures.value
    (let a = c.requires.tree.long.ranks_long in let b = c.persons-persons.ensures.rule.objects.few in omega arith)

pub returns : goal.returns
returns c =
    refuted c.args.lists.now c.args.plan.now c.args.tree.now c.args.person c.in_ok-set.set.persons.items
    c.in_ok-set.set.objects.items c.persons-persons.ensures.rule c.requires.plan c.requires.person c.requires.tree
    (rw (c.as_slice-objects.ensures.value, c.as_slice-ranks.ensures.value) at c.in_ok-set.ensures)
