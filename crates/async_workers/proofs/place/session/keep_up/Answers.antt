use Rattle.std.proofs.Common.{ap}
use Rattle.async_workers.specs.Desk.{HeldData}
use Rattle.async_workers.proofs.Hands.{hand_kept_up}
use Rattle.async_workers.proofs.place.session.keep_up.Goals as goal

pub returns-then-is_late-clause-hand : goal.returns-then-is_late-clause-hand
returns-then-is_late-clause-hand c taken hand =
    hand_kept_up c.args.desk.now c.catch_up.new.desk taken c.args.held.now.book c.catch_up.new.self.book hand
    c.catch_up.ensures.desk (ap (λ (h : HeldData). h.book) c.catch_up.ensures.held)
