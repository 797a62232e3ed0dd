use Rattle.std.proofs.Common.{◌∙◌}
use Rattle.rounds.proofs.Submitting.{high_is_accepted}
use Rattle.rounds.proofs.rounds.submit_bid.Goals as goal

pub returns-in-Ok : goal.returns-in-Ok
returns-in-Ok c =
    let e = c.in-Ok.ensures in
    record { book = e.submitted.4 ∙ high_is_accepted c.args.book.now c.args.worker c.args.bid e.submitted.2; err = tt; free = e.free }
