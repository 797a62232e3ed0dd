use Rattle.hungarian.proofs.Assigned.{planned_first, assigned_first}
use Rattle.hungarian.proofs.solver.first_plan.Goals as goal

pub returns-clause-plan : goal.returns-clause-plan
returns-clause-plan c =
    planned_first c.args.lists.now c.in_ok-plan.plan (rw c.objects.ensures.count at c.in_ok-plan.ensures.prices)
    (rw c.objects.ensures.count at c.in_ok-plan.ensures.owners)
    (rw c.persons.ensures.count at c.in_ok-plan.ensures.objects)

pub returns-clause-assigned : goal.returns-clause-assigned
returns-clause-assigned c =
    assigned_first c.args.lists.now c.in_ok-plan.plan (rw c.objects.ensures.count at c.in_ok-plan.ensures.prices)
    (rw c.objects.ensures.count at c.in_ok-plan.ensures.owners)
    (rw c.persons.ensures.count at c.in_ok-plan.ensures.objects)
