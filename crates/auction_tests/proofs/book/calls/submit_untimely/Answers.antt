use Rattle.std.proofs.Common.{sym, ap, ◌∙◌}
use Rattle.auction_book.proofs.Calling.{submitted_follows}
use Rattle.auction_tests.proofs.book.calls.submit_untimely.Goals as goal

pub returns : goal.returns
returns c = (submitted_follows c.args.worker c.args.book.now c.submit.new.self c.args.bid c.submit.result
    c.invariant.ensures (λ same. absurd (c.if-bid-ask.false (same ∙ sym (ap (λ ask. ask.phase) c.ask.ensures))))
    c.submit.ensures.submitted).goes_on
