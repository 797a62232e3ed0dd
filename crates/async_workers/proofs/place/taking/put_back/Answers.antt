use Rattle.async_workers.proofs.Steps.{gives_from, sees_vacant_from}
use Rattle.async_workers.proofs.place.taking.put_back.Goals as goal

pub push_as-requires-clause-rule : goal.push_as-requires-clause-rule
push_as-requires-clause-rule g c =
    let h = c.requires.held in
    rw (c.requires.queue.1, c.requires.giver) (gives_from _ _ h.0 h.1 _ _ h.2 h.3 h.4, sees_vacant_from _ _ h.0 h.1 h.2)
