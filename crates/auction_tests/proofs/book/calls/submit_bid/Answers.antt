use Rattle.auction_book.proofs.Calling.{submitted_follows}
use Rattle.auction_tests.proofs.book.calls.submit_bid.Goals as goal

pub returns : goal.returns
returns c = (submitted_follows c.args.worker c.args.book.now c.submit.new.self c.args.bid c.submit.result
    c.invariant.ensures (λ same. (c.args.desk.now.table, c.requires.below, c.requires.sound))
    c.submit.ensures.submitted).goes_on
