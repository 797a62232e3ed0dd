use Rattle.bidder.specs.Offers.{IsUnder, benefits_at}
use Rattle.std.proofs.Common.{sym, Some, ap, subst, ◌∙◌}
use Rattle.auction_book.specs.Session.{IsPrepared}
use Rattle.bidder.proofs.Sound.{bid_sound}
use Rattle.bidder.specs.declared.offers.Offer.TheVariants as made
use Rattle.auction_book.proofs.WorkerSteps.{handed_left}
use Rattle.auction_book.proofs.session.submit_offer.Goals as goal

pub submit_bid-requires-clause-fitting : goal.submit_bid-requires-clause-fitting
submit_bid-requires-clause-fitting c = λ same.
    let b = c.args.book.now in
    let h = c.requires.prepared in
    let p = subst (IsPrepared b c.args.worker h.0 h.1) (c.in-Some-Bid.is ∙ ap Some c.in-Some-Bid.field-0-is) h.3 in
    (h.0, h.2, bid_sound b.base h.0 b.ask c.in-Some-Bid.bid p.2.3)

pub submit_below-requires-clause-under : goal.submit_below-requires-clause-under
submit_below-requires-clause-under c =
    let b = c.args.book.now in
    let h = c.requires.prepared in
    let p = subst (IsPrepared b c.args.worker h.0 h.1) (c.in-Some-Below.is ∙ ap Some c.in-Some-Below.field-0-is) h.3 in
    (h.0, h.2, subst (λ i. IsUnder (benefits_at b.base i) h.0 b.ask.floor) (sym p.2.0) p.2.2)

pub returns-in-Some-Bid-clause-ends : goal.returns-in-Some-Bid-clause-ends
returns-in-Some-Bid-clause-ends c =
    let b = c.args.book.now in
    let h = c.requires.prepared in
    let p = subst (IsPrepared b c.args.worker h.0 h.1) (c.in-Some-Bid.is ∙ ap Some c.in-Some-Bid.field-0-is) h.3 in
    (handed_left c.args.worker b _ h.0 h.1 (Some (made.Bid c.in-Some-Bid.bid)) _ _ c.invariant.ensures h.2 p c.submit_bid.ensures.handed_in).ends

pub returns-in-Some-Below-clause-ends : goal.returns-in-Some-Below-clause-ends
returns-in-Some-Below-clause-ends c =
    let b = c.args.book.now in
    let h = c.requires.prepared in
    let p = subst (IsPrepared b c.args.worker h.0 h.1) (c.in-Some-Below.is ∙ ap Some c.in-Some-Below.field-0-is) h.3 in
    (handed_left c.args.worker b _ h.0 h.1 (Some (made.Below c.in-Some-Below.below)) _ _ c.invariant.ensures h.2 p c.submit_below.ensures.handed_in).ends
