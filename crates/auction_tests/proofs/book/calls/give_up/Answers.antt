use Rattle.std.proofs.Common.{sym, subst}
use Rattle.auction_book.specs.Follows.{GoesOn}
use Rattle.auction_book.proofs.Following.{given_up_follows}
use Rattle.auction_tests.proofs.book.calls.give_up.Goals as goal

pub returns : goal.returns
returns c = subst (GoesOn c.args.book.now) (sym c.give_up.ensures.book) (given_up_follows c.args.book.now c.args.worker).goes_on
