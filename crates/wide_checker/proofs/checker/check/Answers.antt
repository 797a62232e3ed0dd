use Rattle.std.proofs.Common.{ℤ, List, map, arith, subst}
use Rattle.std.proofs.lemmas.List.{length-map}
use Rattle.dual_checker.specs.Faults.{AreLong}
use Rattle.wide_checker.proofs.WideDuality.{best_wide, wide_verdicts_differ}
use Rattle.exact_checker.specs.declared.verdict.Verdict.TheVariants.{Length, Yes}
use Rattle.wide_checker.specs.WideNumbers.{wide_value}
use Rattle.wide_checker.specs.WideVerdicts.{IsWideVerdict}
use Rattle.wide_checker.proofs.checker.check.Goals as goal
use Rattle.wide_checker.proofs.checker.check.Goals.{then-objects-n-via-then-objects-n, then-objects-n-via-else-objects-n+then-prices-m}

pub returns-then-objects-n-clause-yes : goal.returns-then-objects-n-clause-yes
returns-then-objects-n-clause-yes c =
    let l = c.args.lists.now in
    let xs = c.args.objects.now in
    let prices : List ℤ = map wide_value c.args.prices.now in
    let short : ¬ AreLong l.m l.rows xs prices = λ long.
    let objects = long.objects in
    let priced = long.prices_too in
    let same = length-map c.args.prices.now wide_value in
    let n = c.persons.ensures.count in
    let m = c.objects.ensures.count in
    elim c.then-objects-n.branch [
      | then-objects-n-via-then-objects-n w ↦ omega arith
      | then-objects-n-via-else-objects-n+then-prices-m w ↦ omega arith
    ] in
    ((λ e. absurd (cc)), (λ h. wide_verdicts_differ l xs prices Length Yes short h))

pub returns-clause-yes : goal.returns-clause-yes
returns-clause-yes c =
    let l = c.args.lists.now in
    let xs = c.args.objects.now in
    let prices : List ℤ = map wide_value c.args.prices.now in (
      (λ e. subst (IsWideVerdict l xs prices) e c.first_fault.ensures),
      (λ h. wide_verdicts_differ l xs prices c.first_fault.result Yes c.first_fault.ensures h),
    )

pub returns-clause-best : goal.returns-clause-best
returns-clause-best c = λ e.
    let l = c.args.lists.now in
    let xs = c.args.objects.now in
    let prices : List ℤ = map wide_value c.args.prices.now in
    best_wide l xs prices c.persons.ensures.rule (subst (IsWideVerdict l xs prices) e c.first_fault.ensures)
