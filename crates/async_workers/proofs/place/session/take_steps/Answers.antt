use Rattle.std.proofs.Common.{◌≡◌, ◌∙◌, ap, sym}
use Rattle.auction_book.specs.Session.{book_kept_up}
use Rattle.auction_book.proofs.WorkerSteps.{noted_of}
use Rattle.async_workers.specs.Desk.{DeskData}
use Rattle.async_workers.specs.Session.{catches_up, with_table}
use Rattle.async_workers.proofs.Sessions.{ends, ends_undone}
use Rattle.async_workers.proofs.place.session.take_steps.Goals as goal

pub returns-in-Err-clause-ends : goal.returns-in-Err-clause-ends
returns-in-Err-clause-ends c =
    ends_undone c.args.refresh c.args.desk.now.since c.args.desk.now.known c.args.held.now.book
    c.offer_in-note.new.held.book c.args.held.now.offer c.offer_in-note.result.note
    c.offer_in-note.result.outcome c.in-Err.refused c.offer_in-note.new.held.caught_up c.in-Err.is
    c.offer_in-note.ensures.handed_in c.offer_in-note.ensures.none (c.offer_in-note.ensures.caught_up ∙ c.requires.fresh)

pub move_on-outcome-requires-clause-hand : goal.move_on-outcome-requires-clause-hand
move_on-outcome-requires-clause-hand c = let h = c.requires.hand in (h.0, c.keep_up.ensures.hand h.0 (c.offer_in-note.ensures.hand h.0 h.1))

pub returns-clause-hand : goal.returns-clause-hand
returns-clause-hand c taken hand = c.move_on-outcome.ensures.hand taken (c.keep_up.ensures.hand taken (c.offer_in-note.ensures.hand taken hand))

pub returns-clause-ends : goal.returns-clause-ends
returns-clause-ends c =
    let h = c.requires.hand in
    let k = c.args.desk.now.known in
    let mid = c.offer_in-note.new.held.book in
    let kept = c.keep_up.ensures.hand h.0 (c.offer_in-note.ensures.hand h.0 h.1) in
    let noted = noted_of c.args.held.now.book mid k.number c.args.held.now.offer c.offer_in-note.result.note
    c.offer_in-note.result.outcome c.in_default.field-0 c.in_default.is c.offer_in-note.ensures.handed_in in
    let caught : c.move_on-outcome.new.held.caught_up ≡ catches_up c.args.refresh c.was_too_low.result
    c.args.desk.now.since = c.move_on-outcome.ensures.caught_up ∙ c.keep_up.ensures.caught_up in
    ends c.args.refresh c.args.desk.now.since k c.keep_up.new.desk.known c.args.held.now.book mid
    c.keep_up.new.held.book c.move_on-outcome.new.held.book c.args.held.now.offer c.offer_in-note.result.note
    c.move_on-outcome.new.held.caught_up c.keep_up.new.desk.known.number c.move_on-outcome.result
    c.requires.prepared noted c.offer_in-note.ensures.none (caught ∙
    ap (λ t. catches_up c.args.refresh t c.args.desk.now.since) c.was_too_low.ensures) (c.keep_up.ensures.book ∙
    ap (λ d. book_kept_up d mid k.number) (sym caught))
    (ap (λ (d : DeskData). d.known) c.keep_up.ensures.desk ∙ ap (λ d. with_table d mid k) (sym caught))
    kept.may.free (ap (λ (d : DeskData). d.known.number) c.keep_up.ensures.desk) c.move_on-outcome.ensures.ok
    c.move_on-outcome.ensures.err
