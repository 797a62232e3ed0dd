use Rattle.c_plans.proofs.next.is_another.Goals as goal

pub returns-clause-assigned : goal.returns-clause-assigned
returns-clause-assigned c = c.is_assigned.ensures c.args.lists.now c.args.other.now c.args.prices.now c.in_ok-verdict.ensures.verdict
