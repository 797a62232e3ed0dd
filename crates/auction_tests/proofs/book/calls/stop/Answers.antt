use Rattle.std.proofs.Common.{true, sym, subst}
use Rattle.auction_book.specs.Follows.{GoesOn}
use Rattle.auction_book.proofs.Following.{stop_follows}
use Rattle.auction_tests.proofs.book.calls.stop.Goals as goal

pub returns : goal.returns
returns c = subst (GoesOn c.args.book.now) (sym c.stop.ensures.book) (stop_follows c.args.book.now 0 true).goes_on
