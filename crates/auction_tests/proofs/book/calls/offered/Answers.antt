use Rattle.std.proofs.Common.{◌∙◌, sym, subst}
use Rattle.scaled_values.specs.Scaled.{ScaledProblem}
use Rattle.bidder.specs.Offers.{IsAsk}
use Rattle.auction_book.proofs.Claiming.{ask_is}
use Rattle.auction_tests.proofs.book.calls.offered.Goals as goal

pub make_bid-requires-clause-ask : goal.make_bid-requires-clause-ask
make_bid-requires-clause-ask c =
    let b = c.args.book.now in
    let base = c.deref.ensures ∙ c.scaled.ensures.scaled in
    subst (λ (s : ScaledProblem). IsAsk s c.ask.result) (sym base) (subst (IsAsk b.base) (sym c.ask.ensures) (ask_is b c.invariant.ensures))
