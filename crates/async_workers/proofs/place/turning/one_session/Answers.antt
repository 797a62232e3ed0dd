use Rattle.std.proofs.Common.{ap, subst, Option}
use Rattle.bidder.specs.declared.offers.Offer.{Offer}
use Rattle.async_workers.specs.Desk.{DeskData, HeldData}
use Rattle.async_workers.specs.inside.Hand.{Ends, IsInHand}
use Rattle.async_workers.proofs.Hands.{hand_taken, serves, table_long}
use Rattle.async_workers.proofs.Turning.{prepared_taken}
use Rattle.async_workers.proofs.place.turning.one_session.Given as given
use Rattle.async_workers.proofs.place.turning.one_session.Goals as goal
use Rattle.async_workers.proofs.place.turning.one_session.Goals.{After-session-ended}

pub session-ended-requires-clause-hand : goal.session-ended-requires-clause-hand
session-ended-requires-clause-hand g c =
    let a = c.requires.ready.1 in (
      c.take-held.result.book,
      hand_taken c.args.desk.now c.take-held.new.self c.take-held.result.book a.0 a.1 a.2
          c.take-held.ensures.took c.take-held.ensures.same,
    )

pub session-ended-requires-clause-prepared : goal.session-ended-requires-clause-prepared
session-ended-requires-clause-prepared g c =
    let a = c.requires.ready.1 in
    prepared_taken c.args.desk.now c.take-held.new.self c.take-held.result.book a.0 a.1 c.take-held.result.offer a.2
    c.requires.offer c.take-held.ensures.took c.take-held.ensures.same (ap (λ (h : HeldData). h.offer)
    c.take-held.ensures.held)

pub session-ended-requires-clause-fresh : goal.session-ended-requires-clause-fresh
session-ended-requires-clause-fresh g c = ap (λ (h : HeldData). h.caught_up) c.take-held.ensures.held

-- the book in hand after the session
in_hand : (g : given.Over) (c : After-session-ended g) → IsInHand c.session-ended.new.desk c.take-held.result.book c.session-ended.new.held.book
in_hand g c =
    let a = c.requires.ready.1 in
    c.session-ended.ensures.hand c.take-held.result.book
    (hand_taken c.args.desk.now c.take-held.new.self c.take-held.result.book a.0 a.1 a.2
    c.take-held.ensures.took c.take-held.ensures.same)

pub give-requires-clause-held : goal.give-requires-clause-held
give-requires-clause-held g c =
    let hand = in_hand g (goal.at.give-requires-clause-held g c).After-session-ended in
    (c.take-held.result.book, (hand.told, hand.holding, hand.same_number), hand.may)

pub give-requires-clause-number : goal.give-requires-clause-number
give-requires-clause-number g c = (in_hand g (goal.at.give-requires-clause-number g c).After-session-ended).in_range

pub returns-clause-serves : goal.returns-clause-serves
returns-clause-serves g c =
    let d = c.args.desk.now in
    let f = c.session-ended.new.desk in
    let b = c.take-held.result.book in
    let held = c.session-ended.new.held in
    let a = c.requires.ready.1 in
    let told = c.session-ended.result.note in
    let outcome = c.session-ended.result.outcome in
    let same = c.take-held.ensures.same in
    let offer = ap (λ (h : HeldData). h.offer) c.take-held.ensures.held in
    let ends = subst (λ (z : DeskData × Option Offer). Ends c.args.refresh z.0.since z.0.known z.1 told outcome b
    f.known held.book held.caught_up) (λ i. (same i, offer i)) c.session-ended.ensures.ends in
    serves (Ends c.args.refresh d.since d.known d.offer told outcome) d c.take-held.new.self f c.give.new.desk b
    held.book held.caught_up a.0 a.1 a.2 c.take-held.ensures.took same c.session-ended.ensures.desk
    (in_hand g (goal.at.returns-clause-serves g c).After-session-ended) ends c.give.ensures.gave c.give.ensures.same

pub returns-clause-table : goal.returns-clause-table
returns-clause-table g c =
    let held = c.session-ended.new.held in
    table_long c.session-ended.new.desk c.give.new.desk c.take-held.result.book held.book held.caught_up
    (in_hand g (goal.at.returns-clause-table g c).After-session-ended) c.give.ensures.same
