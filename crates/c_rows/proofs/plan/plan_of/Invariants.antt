use Rattle.std.proofs.Common.{◌≡◌, take}
use Rattle.c_rows.specs.Input.{plan_of}
use Rattle.c_rows.proofs.plan.plan_of.Given as goal

abbrev pub invariant-loop-number : goal.invariant-loop-number
invariant-loop-number l = l.plan.items ≡ plan_of (take l.number-index l.numbers)
