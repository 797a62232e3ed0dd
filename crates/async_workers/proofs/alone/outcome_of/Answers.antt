use Rattle.async_workers.proofs.Ends.{recorded_hall}
use Rattle.async_workers.proofs.alone.outcome_of.Goals as goal

pub returns-in-Some : goal.returns-in-Some
returns-in-Some c = recorded_hall c.args.book.now c.in-Some.hall.now c.in_ok-copy.field-0 c.invariant.ensures c.in-Some.ensures c.in_ok-copy.ensures
