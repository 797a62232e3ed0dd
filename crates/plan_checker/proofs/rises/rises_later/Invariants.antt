use Rattle.plan_checker.proofs.Later.{IsOpenBefore}
use Rattle.plan_checker.proofs.rises.rises_later.Given as goal

abbrev pub invariant-loop-list : goal.invariant-loop-list
invariant-loop-list l = IsOpenBefore l.plan l.person l.object l.cost l.list
