use Rattle.std.proofs.Common.{ℕ, length, subst, sym, ◌∙◌}
use Rattle.std.specs.List.{All}
use Rattle.assign_core.specs.Numbered.{IsNumber}
use Rattle.double_checker.proofs.PlanPersons.{all_numbers, first_unlisted_is, plan_listed}
use Rattle.double_checker.proofs.checker.verdict_on_plan.Goals as goal

pub returns-in-Some-clause-verdict : goal.returns-in-Some-clause-verdict
returns-in-Some-clause-verdict c = λ each.
    let a = c.args in (
      record { long = c.requires.long; costs_are = each },
      first_unlisted_is (length a.prices.now)
          a.costs.now a.objects.now c.in-Some.person c.requires.long.costs_long c.in-Some.ensures,
    )

pub first_given_before-requires-clause-within : goal.first_given_before-requires-clause-within
first_given_before-requires-clause-within c =
    let a = c.args in
    subst (λ (q : ℕ). All (IsNumber q) a.objects.now) (sym (c.clear.auto.marks ∙ c.requires.owned))
    (all_numbers (length a.prices.now) a.costs.now a.objects.now c.in_default.ensures)

pub returns-in-Some-first_given_before-clause-verdict : goal.returns-in-Some-first_given_before-clause-verdict
returns-in-Some-first_given_before-clause-verdict c = λ each.
    let a = c.args in (
      record { long = c.requires.long; costs_are = each },
      plan_listed (length a.prices.now)
          a.costs.now a.objects.now c.requires.long.costs_long c.in_default.ensures,
      c.in-Some-first_given_before.ensures,
    )

pub returns-in-Some-first_no_price-clause-verdict : goal.returns-in-Some-first_no_price-clause-verdict
returns-in-Some-first_no_price-clause-verdict c = λ each.
    let a = c.args in (
      record { long = c.requires.long; costs_are = each },
      record {
        listed = plan_listed (length a.prices.now) a.costs.now a.objects.now c.requires.long.costs_long
            c.in_default.ensures;
        apart = c.in_default-first_given_before.ensures.0;
      },
      c.in-Some-first_no_price.ensures,
    )

pub verdict_on_prices-requires-clause-assigned : goal.verdict_on_prices-requires-clause-assigned
verdict_on_prices-requires-clause-assigned c =
    let a = c.args in
    record {
      listed = plan_listed (length a.prices.now) a.costs.now a.objects.now c.requires.long.costs_long
          c.in_default.ensures;
      apart = c.in_default-first_given_before.ensures.0;
    }
