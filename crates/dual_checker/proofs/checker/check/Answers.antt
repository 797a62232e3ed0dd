use Rattle.std.proofs.Common.{subst}
use Rattle.assign_core.proofs.Duality.{best_by_slack}
use Rattle.dual_checker.specs.declared.verdict.Verdict.TheVariants.{Yes}
use Rattle.dual_checker.specs.Verdicts.{IsVerdict}
use Rattle.dual_checker.proofs.Differences.{differ, verdict_of}
use Rattle.dual_checker.proofs.checker.check.Goals as goal

pub returns-clause-verdict : goal.returns-clause-verdict
returns-clause-verdict c =
    verdict_of c.args.sense c.args.problem.now c.args.objects.now c.args.prices.now c.first_fault.result c.first_fault.ensures.fault

pub returns-clause-yes : goal.returns-clause-yes
returns-clause-yes c =
    let rows = c.args.problem.now in
    let holds = verdict_of c.args.sense rows c.args.objects.now c.args.prices.now c.first_fault.result c.first_fault.ensures.fault in (
      (λ e. subst (IsVerdict c.args.sense rows c.args.objects.now c.args.prices.now) e holds),
      (λ h. differ c.args.sense rows c.args.objects.now c.args.prices.now c.first_fault.result Yes holds h),
    )

pub returns-clause-best : goal.returns-clause-best
returns-clause-best c = λ e.
    let rows = c.args.problem.now in
    let holds = verdict_of c.args.sense rows c.args.objects.now c.args.prices.now c.first_fault.result c.first_fault.ensures.fault in
    let certificate = subst (IsVerdict c.args.sense rows c.args.objects.now c.args.prices.now) e holds in
    best_by_slack c.args.sense rows c.args.objects.now c.args.prices.now c.n-n.ensures.problem certificate.assigned certificate.slack
