use Rattle.std.proofs.Common.{◌≡◌}
use Rattle.crossbeam_queue.specs.Passes.{view, IsSamePass}
use Rattle.async_workers.specs.inside.Passing.{opener_at}
use Rattle.async_workers.specs.Desk.{new_desks}
use Rattle.async_workers.proofs.place.opening.seat_desks.Given as goal

abbrev pub invariant-loop-made : goal.invariant-loop-made
invariant-loop-made g l = record {
  same : IsSamePass l.initial.pass l.pass;
  opener : view l.pass ≡ opener_at l.book l.made;
  desks : l.desks.items ≡ new_desks l.queue.table.shared.table_id l.book l.made;
}
