use Rattle.std.proofs.Common.{length, refl, sym, ◌∙◌}
use mathlib.Core.Bool.{true≢false}
use Rattle.double_costs.specs.Units.{units_of}
use Rattle.double_checker.proofs.PlanPersons.{plan_costs}
use Rattle.double_checker.proofs.PlanVerdicts.{best_is, dear_is, open_is}
use Rattle.double_checker.proofs.checker.verdict_on_prices.Goals as goal

pub returns-then-not-are_least_unmarked-clause-verdict : goal.returns-then-not-are_least_unmarked-clause-verdict
returns-then-not-are_least_unmarked-clause-verdict c =
    let a = c.args in
    dear_is a.sense a.costs.now a.objects.now a.prices.now a.margin a.owned.now c.requires.long c.requires.assigned
    c.requires.finite c.requires.marks
    (λ h. true≢false (sym (c.are_least_unmarked.ensures.1 h) ∙ c.if-not-are_least_unmarked.true))

pub returns-in-Some-clause-best : goal.returns-in-Some-clause-best
returns-in-Some-clause-best c = λ b e.
    let a = c.args in
    plan_costs a.sense (units_of a.margin) (length a.prices.now) a.costs.now a.objects.now a.prices.now
    c.in-Some.is_worse c.requires.long.costs_long refl c.requires.own c.in-Some.ensures

pub returns-in-Some-clause-verdict : goal.returns-in-Some-clause-verdict
returns-in-Some-clause-verdict c =
    let a = c.args in
    best_is a.sense a.costs.now a.objects.now a.prices.now a.margin a.owned.now c.in-Some.is_worse
    c.is_by_margin.result c.requires.long
    c.requires.own c.requires.assigned c.requires.finite c.requires.marks
    (c.are_least_unmarked.ensures.0 c.if-not-are_least_unmarked.false) c.in-Some.ensures c.is_by_margin.ensures

pub returns-in-None-clause-verdict : goal.returns-in-None-clause-verdict
returns-in-None-clause-verdict c =
    let a = c.args in
    open_is a.sense a.costs.now a.objects.now a.prices.now a.margin c.requires.long c.requires.own c.requires.assigned
    c.requires.finite c.in-None.ensures
