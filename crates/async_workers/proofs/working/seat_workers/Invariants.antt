use Rattle.std.proofs.Common.{◌≡◌, ◌++◌, map}
use Rattle.async_workers.specs.inside.Working.{desk_in}
use Rattle.async_workers.proofs.working.seat_workers.Given as goal

abbrev pub invariant-loop-desk : goal.invariant-loop-desk
invariant-loop-desk l = map desk_in l.workers.items ++ l.desk-iterator.rest.items ≡ l.fn.desks.items
