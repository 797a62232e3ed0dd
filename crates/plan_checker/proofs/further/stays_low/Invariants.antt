use Rattle.std.proofs.Common.{ℕ, ◌<◌, ◌<ℤ◌}
use Rattle.plan_checker.specs.inside.Rises.{other_price_at}
use Rattle.plan_checker.proofs.further.stays_low.Given as goal

abbrev pub invariant-loop-list : goal.invariant-loop-list
invariant-loop-list l = (t : ℕ) → t < l.list → other_price_at l.plan t l.object <ℤ l.plan.bound
