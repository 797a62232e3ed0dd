use Rattle.async_workers.proofs.Hands.{hand_taken}
use Rattle.solver_tests.proofs.by_workers.worked.look.Goals as goal

pub give-requires-clause-held : goal.give-requires-clause-held
give-requires-clause-held g c =
    let a = c.requires.ready.1 in
    let b = c.take-held.result.book in
    let h = hand_taken c.args.desk.now c.take-held.new.self b a.0 a.1 a.2 c.take-held.ensures.took c.take-held.ensures.same in
    (b, (h.told, h.holding, h.same_number), h.may)

pub give-requires-clause-number : goal.give-requires-clause-number
give-requires-clause-number g c =
    let a = c.requires.ready.1 in
    (hand_taken c.args.desk.now c.take-held.new.self c.take-held.result.book a.0 a.1 a.2 c.take-held.ensures.took c.take-held.ensures.same).in_range
