use Rattle.std.proofs.Common.{ap, refl}
use Rattle.async_workers.specs.Desk.{DeskData, HeldData}
use Rattle.async_workers.proofs.Sessions.{asked_in_hand, hand_moved}
use Rattle.async_workers.proofs.place.session.move_on.Goals as goal

pub returns-clause-hand : goal.returns-clause-hand
returns-clause-hand c taken hand =
    hand_moved c.args.desk.now taken c.args.held.now.book c.book_mut.result.now c.begin_next_if_over.new.book
    c.begin_next_if_over.new.book c.claim_next.new.held.book c.desk.inside.known.number c.claim_next.result hand
    c.requires.none c.book_mut.ensures.value
    c.in_ok-begin_next_if_over.ensures.ok refl (ap (λ (d : DeskData). d.known.number) c.desk.view_is)
    (ap (λ (h : HeldData). h.book) c.claim_next.ensures.held) c.claim_next.ensures.free

pub returns-clause-asked : goal.returns-clause-asked
returns-clause-asked c =
    let h = c.requires.hand in
    asked_in_hand c.args.desk.now h.0 c.args.held.now.book c.book_mut.result.now c.begin_next_if_over.new.book
    c.begin_next_if_over.new.book c.claim_next.result h.1 c.requires.none c.book_mut.ensures.value
    c.in_ok-begin_next_if_over.ensures.ok refl c.claim_next.ensures.asked
