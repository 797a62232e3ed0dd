use Rattle.std.proofs.Common.{subst}
use Rattle.assign_core.proofs.HallSets.{no_assignment}
use Rattle.exact_checker.specs.declared.hall_verdict.HallVerdict.TheVariants.{Range, Yes}
use Rattle.dual_checker.specs.HallVerdicts.{AreInRange}
use Rattle.exact_checker.specs.HallVerdicts.{IsHallVerdict}
use Rattle.exact_checker.proofs.HallDifferences.{hall_verdicts_differ}
use Rattle.exact_checker.proofs.hall.check_hall.Goals as goal

pub returns-then-not-are_in_range-clause-yes : goal.returns-then-not-are_in_range-clause-yes
returns-then-not-are_in_range-clause-yes c =
    let l = c.args.lists.now in
    let persons = c.args.persons.now in
    let objects = c.args.objects.now in
    let out : ¬ AreInRange l.m l.rows persons objects = λ h. let yes = c.are_in_range.ensures.1 h in let not = c.if-not-are_in_range.true in cc in
    ((λ e. absurd (cc)), (λ h. hall_verdicts_differ l persons objects Range Yes c.persons.ensures.rule out h))

pub returns-clause-yes : goal.returns-clause-yes
returns-clause-yes c =
    let l = c.args.lists.now in
    let persons = c.args.persons.now in
    let objects = c.args.objects.now in (
      (λ e. subst (IsHallVerdict l persons objects) e c.first_hall_fault.ensures),
      (λ h. hall_verdicts_differ l persons objects c.first_hall_fault.result Yes c.persons.ensures.rule c.first_hall_fault.ensures h),
    )

pub returns-clause-none : goal.returns-clause-none
returns-clause-none c = λ e xs a.
    let l = c.args.lists.now in
    no_assignment l.rows c.args.persons.now c.args.objects.now xs (subst (IsHallVerdict l c.args.persons.now c.args.objects.now) e c.first_hall_fault.ensures) a
