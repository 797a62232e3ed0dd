use Rattle.std.proofs.Common.{sym}
use Rattle.rounds.proofs.Waiting.{claimed_front, going_claimed, nobody_claimed}
use Rattle.rounds.proofs.rounds.claim_next.Goals as goal

pub returns-in-Person-clause-some : goal.returns-in-Person-clause-some
returns-in-Person-clause-some c =
    let b = c.args.book.now in
    let e = c.in-Person.ensures in
    let front = claimed_front b c.in-Person.person c.in-Person.field-1 (sym e.answer) in
    (front.0, front.1, e.book, going_claimed b c.claim.new.self c.args.worker e.book e.free c.requires.going)

pub returns-in_default : goal.returns-in_default
returns-in_default c =
    let e = c.claim.ensures in
    record {
      some = tt;
      none = nobody_claimed c.args.book.now c.claim.new.self c.args.worker c.claim.result
          c.requires.going e.answer e.book c.in_default.not-Person;
    }
