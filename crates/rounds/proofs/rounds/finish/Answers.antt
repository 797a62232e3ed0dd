use Rattle.std.proofs.Common.{◌≡◌, Bool, true, false, subst}
use Rattle.auction_book.specs.Answers.{IsAnswered}
use Rattle.rounds.proofs.Ending.{answer_owned}
use Rattle.rounds.proofs.Phasing.{all_done}
use Rattle.rounds.proofs.rounds.finish.Goals as goal

differ : (x : Bool) → x ≡ true → x ≡ false → ⊥
differ x t f = cc

pub unreachable-requires : goal.unreachable-requires
unreachable-requires c =
    let b = c.args.book.now in
    differ _ (all_done b c.requires.rest c.requires.queue c.requires.last) (subst (IsAnswered b) c.in-None.is c.in_ok-certificate.ensures.answer)

pub returns-clause-outcome : goal.returns-clause-outcome
returns-clause-outcome c =
    let b = c.args.book.now in
    let answer = subst (IsAnswered b) c.in-Some.is c.in_ok-certificate.ensures.answer in
    (answer_owned b c.in-Some.certificate c.requires.rest.going.free answer.1, answer.1.priced)
