use Rattle.std.proofs.Common.{arith}
use Rattle.std.proofs.lemmas.Bool.{eqb-true}
use Rattle.group_checker.proofs.Reading.{leads_out}
use Rattle.group_checker.proofs.arrow.is_arrow.Goals as goal

pub returns-then-not-plan-from : goal.returns-then-not-plan-from
returns-then-not-plan-from c =
    (λ yes. leads_out c.args.lists.now c.args.plan c.requires.plan c.args.from c.args.to
    (record { first = omega arith; last = c.requires.from }) c.if-not-plan-from.true (eqb-true c.args.to 0 yes))
