use Rattle.double_checker.proofs.PlanVerdicts.{alone_of, best_of}
use Rattle.double_checker.proofs.checker.check.Goals as goal

pub returns-clause-best : goal.returns-clause-best
returns-clause-best c = λ b e.
    let a = c.args in
    best_of a.sense a.n a.m a.costs.now a.objects.now a.prices.now a.margin c.verdict_on_plan-verdict.result
    c.verdict_or_fault.result b c.if-objects-persons.false c.if-prices-width.false
    c.verdict_or_fault.ensures c.verdict_on_plan-verdict.ensures.verdict c.verdict_on_plan-verdict.ensures.best e

pub returns-clause-alone : goal.returns-clause-alone
returns-clause-alone c = λ e.
    let a = c.args in
    alone_of a.sense a.n a.m a.costs.now a.objects.now a.prices.now a.margin c.verdict_on_plan-verdict.result
    c.verdict_or_fault.result c.if-objects-persons.false c.if-prices-width.false
    c.verdict_or_fault.ensures c.verdict_on_plan-verdict.ensures.verdict c.verdict_on_plan-verdict.ensures.best e
