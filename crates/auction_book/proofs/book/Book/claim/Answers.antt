use Rattle.std.proofs.Common.{◌∙◌, None, Some, ap, get_or, sym, subst}
use Rattle.assign_core.specs.Numbered.{numbered}
use Rattle.assign_core.proofs.NumberedLemmas.{numbered-same}
use Rattle.bidder.specs.Offers.{IsAsk}
use Rattle.auction_book.specs.Book.{BookData, persons_of}
use Rattle.auction_book.proofs.Claiming.{ask_is}
use Rattle.auction_book.proofs.Places.{claimed_person}
use Rattle.auction_book.proofs.book.Book.claim.Goals as goal

pub returns-in-Some-clause-asked : goal.returns-in-Some-clause-asked
returns-in-Some-clause-asked c =
    let b = c.args.self.now in
    let free = c.invariant.ensures in
    let some = c.in-Some.ensures.some in (
      claimed_person (persons_of b) b.owners b.queue b.claims c.in-Some.person some.0 free.placed_once some.1,
      subst (IsAsk b.base) (sym c.ask-ask.ensures) (ask_is b free),
    )

pub returns-in-Some-clause-held : goal.returns-in-Some-clause-held
returns-in-Some-clause-held c =
    let b = c.args.self.now in
    let w = c.args.worker in
    let some = c.in-Some.ensures.some in
    let held = numbered-same b.claims w (Some (get_or b.queue 0 0)) None c.requires.worker.first
    c.requires.worker.last ∙ ap (λ q. Some (get_or q 0 0)) some.1 in (
      c.ask-ask.ensures ∙ sym (ap (λ (b : BookData). b.ask) some.2),
      ap (λ (b : BookData). numbered b.claims w None) some.2 ∙ held,
    )
