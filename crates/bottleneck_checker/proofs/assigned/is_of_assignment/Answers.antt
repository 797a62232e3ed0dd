use Rattle.std.proofs.Common.{subst}
use Rattle.exact_checker.specs.Verdicts.{IsVerdict}
use Rattle.exact_checker.specs.declared.verdict.Verdict.TheVariants.{Length, Twice, Unlisted}
use Rattle.bottleneck_checker.proofs.Bottlenecks.{assigned_by}
use Rattle.bottleneck_checker.proofs.assigned.is_of_assignment.Goals as goal

pub returns-in-Length : goal.returns-in-Length
returns-in-Length c = λ l xs prices long h. assigned_by l xs prices Length long (subst (IsVerdict l xs prices) c.in-Length.is h)

pub returns-in-Unlisted : goal.returns-in-Unlisted
returns-in-Unlisted c = λ l xs prices long h. assigned_by l xs prices (Unlisted c.in-Unlisted.field-0) long (subst (IsVerdict l xs prices) c.in-Unlisted.is h)

pub returns-in-Twice : goal.returns-in-Twice
returns-in-Twice c = λ l xs prices long h. assigned_by l xs prices (Twice c.in-Twice.field-0) long (subst (IsVerdict l xs prices) c.in-Twice.is h)
