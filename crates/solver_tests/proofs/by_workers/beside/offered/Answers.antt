use Rattle.std.proofs.Common.{◌∙◌, ap, length, subst, sym, List}
use Rattle.assign_core.specs.Numbered.{IsNumber}
use Rattle.assign_core.specs.Rows.{Listing}
use Rattle.scaled_values.specs.Scaled.{ScaledProblem}
use Rattle.bidder.specs.Offers.{IsAsk}
use Rattle.auction_book.proofs.Claiming.{ask_is}
use Rattle.auction_book.proofs.Places.{held_person}
use Rattle.solver_tests.proofs.by_workers.beside.offered.Goals as goal

pub make_bid-requires-clause-person : goal.make_bid-requires-clause-person
make_bid-requires-clause-person c =
    let b = c.args.book.now in
    let problem = ap (λ (s : ScaledProblem). s.problem) (c.deref.ensures ∙ c.scaled.ensures.scaled) in
    subst (λ (rows : List Listing). IsNumber (length rows) c.in_ok-person.person) (sym problem)
    (held_person (length b.base.problem) b.owners b.queue b.claims c.args.plain.now.number c.in_ok-person.person
    c.invariant.ensures.placed_once (sym c.in_ok-person.ensures.claim))

pub make_bid-requires-clause-ask : goal.make_bid-requires-clause-ask
make_bid-requires-clause-ask c =
    let b = c.args.book.now in
    let base = c.deref.ensures ∙ c.scaled.ensures.scaled in
    subst (λ (s : ScaledProblem). IsAsk s c.ask.result) (sym base) (subst (IsAsk b.base) (sym c.ask.ensures) (ask_is b c.invariant.ensures))
