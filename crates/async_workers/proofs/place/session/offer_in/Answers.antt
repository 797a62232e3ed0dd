use Rattle.std.proofs.Common.{◌∙◌, ap}
use Rattle.async_workers.specs.Desk.{DeskData, HeldData}
use Rattle.async_workers.proofs.Sessions.{handed_hand, may_go_in}
use Rattle.async_workers.proofs.place.session.offer_in.Goals as goal

pub submit_offer-requires-clause-prepared : goal.submit_offer-requires-clause-prepared
submit_offer-requires-clause-prepared c =
    let h = c.requires.hand in
    may_go_in c.args.desk.now h.0 c.args.held.now.book c.book_mut.result.now c.desk.inside.known.number
    c.args.held.now.offer c.take_offer-offer.result h.1 c.requires.prepared
    (c.book_mut.ensures.value ∙ ap (λ (h : HeldData). h.book) c.take_offer-offer.ensures.held)
    (ap (λ (d : DeskData). d.known.number) c.desk.view_is) c.take_offer-offer.ensures.offer

pub returns-clause-hand : goal.returns-clause-hand
returns-clause-hand c taken hand =
    handed_hand c.args.desk.now taken c.args.held.now.book c.book_mut.result.now c.submit_offer.new.book c.desk.inside.known.number hand
    (c.book_mut.ensures.value ∙ ap (λ (h : HeldData). h.book) c.take_offer-offer.ensures.held)
    (ap (λ (d : DeskData). d.known.number) c.desk.view_is) c.submit_offer.ensures.ends c.submit_offer.ensures.free
