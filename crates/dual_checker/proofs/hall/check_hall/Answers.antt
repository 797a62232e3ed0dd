use Rattle.std.proofs.Common.{length, subst}
use Rattle.assign_core.proofs.HallSets.{no_assignment}
use Rattle.dual_checker.specs.declared.hall_verdict.HallVerdict.TheVariants.{Yes}
use Rattle.dual_checker.specs.HallVerdicts.{IsHallVerdict}
use Rattle.dual_checker.proofs.HallDifferences.{halls_differ}
use Rattle.dual_checker.proofs.hall.check_hall.Goals as goal

pub returns-clause-yes : goal.returns-clause-yes
returns-clause-yes c =
    let m = (length c.args.problem.now) in
    let rows = c.args.problem.now in (
      (λ e. subst (IsHallVerdict m rows c.args.persons.now c.args.objects.now) e c.first_hall_fault.ensures),
      (λ h. halls_differ m rows c.args.persons.now c.args.objects.now c.first_hall_fault.result Yes c.n-n.ensures.problem.each c.first_hall_fault.ensures h),
    )

pub returns-clause-none : goal.returns-clause-none
returns-clause-none c = λ e xs a.
    let m = (length c.args.problem.now) in
    let rows = c.args.problem.now in
    no_assignment rows c.args.persons.now c.args.objects.now xs
    (subst (IsHallVerdict m rows c.args.persons.now c.args.objects.now) e c.first_hall_fault.ensures) a
