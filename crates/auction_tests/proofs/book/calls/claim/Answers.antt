use Rattle.std.proofs.Common.{sym, subst}
use Rattle.auction_book.specs.Follows.{GoesOn}
use Rattle.auction_book.proofs.Calling.{answered_follows}
use Rattle.auction_tests.proofs.book.calls.claim.Goals as goal

pub returns : goal.returns
returns c = subst (GoesOn c.args.book.now) (sym c.claim.ensures.book) (answered_follows c.args.worker c.args.book.now c.claim.result).goes_on
