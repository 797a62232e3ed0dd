use Rattle.std.proofs.Common.{arith}
use Rattle.rounds.proofs.Submitting.{next_bid, below_offer, below_whole, no_offer_yet, offer_more}
use Rattle.rounds.proofs.rounds.submit_all.Goals as goal

pub loop-i-init : goal.loop-i-init
loop-i-init c = no_offer_yet c.args.book.now c.requires.0 c.args.offers.now c.requires.1

pub loop-i-preserved : goal.loop-i-preserved
loop-i-preserved c =
    let e = c.in_ok-submit_bid-in-Bid.ensures in
    offer_more c.submit_bid.new.book c.next_offer.result c.loop-i.invariant c.loop-i-test.true c.next_offer.ensures c.in-Bid.is e.book e.free

pub returns-in-Below-clause-submitted : goal.returns-in-Below-clause-submitted
returns-in-Below-clause-submitted c = below_offer c.next_offer.result c.loop-i.invariant c.loop-i-test.true c.next_offer.ensures c.in-Below.is

pub returns-in-Below-clause-book : goal.returns-in-Below-clause-book
returns-in-Below-clause-book c = below_whole c.next_offer.result c.loop-i.invariant c.loop-i-test.true c.next_offer.ensures c.in-Below.is

pub overflow_cast-i : goal.overflow_cast-i
overflow_cast-i c = omega (arith, (next_bid c.next_offer.result c.loop-i.invariant c.loop-i-test.true c.next_offer.ensures c.in-Bid.is).few)

pub overflow_add-i : goal.overflow_add-i
overflow_add-i c = omega (arith, (next_bid c.next_offer.result c.loop-i.invariant c.loop-i-test.true c.next_offer.ensures c.in-Bid.is).few)

pub submit_bid-requires-clause-worker : goal.submit_bid-requires-clause-worker
submit_bid-requires-clause-worker c = (next_bid c.next_offer.result c.loop-i.invariant c.loop-i-test.true c.next_offer.ensures c.in-Bid.is).worker

pub submit_bid-requires-clause-held : goal.submit_bid-requires-clause-held
submit_bid-requires-clause-held c = (next_bid c.next_offer.result c.loop-i.invariant c.loop-i-test.true c.next_offer.ensures c.in-Bid.is).held

pub submit_bid-requires-clause-phase : goal.submit_bid-requires-clause-phase
submit_bid-requires-clause-phase c = (next_bid c.next_offer.result c.loop-i.invariant c.loop-i-test.true c.next_offer.ensures c.in-Bid.is).phase

pub submit_bid-requires-clause-fitting : goal.submit_bid-requires-clause-fitting
submit_bid-requires-clause-fitting c = (next_bid c.next_offer.result c.loop-i.invariant c.loop-i-test.true c.next_offer.ensures c.in-Bid.is).fitting
