use Rattle.std.proofs.Common.{arith}
use Rattle.bidder.specs.Offers.{offer_of}
use Rattle.rounds.proofs.Filled.{filled}
use Rattle.rounds.proofs.offers.fill_here.Goals as goal

pub returns-clause-offers : goal.returns-clause-offers
returns-clause-offers c =
    let done = c.loop-i-test.false in
    filled (offer_of c.args.scaled.now c.args.prices.now 0 c.args.ask) c.args.persons.now c.loop-i.offers (omega arith)
    (λ k d e lt. c.loop-i.invariant.offers k d e (omega (arith, done)))
