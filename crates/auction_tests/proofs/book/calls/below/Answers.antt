use Rattle.std.proofs.Common.{ap, subst, sym, ◌∙◌, length, List}
use Rattle.assign_core.specs.Rows.{Listing}
use Rattle.assign_core.specs.Matching.{owner_of}
use Rattle.assign_core.specs.Numbered.{IsNumber}
use Rattle.scaled_values.specs.Scaled.{ScaledProblem}
use Rattle.auction_book.proofs.Places.{held_person, unowned}
use Rattle.auction_tests.proofs.book.calls.below.Goals as goal

pub refute-requires-clause-alone : goal.refute-requires-clause-alone
refute-requires-clause-alone c = λ j h.
    let b = c.args.book.now in
    unowned (length b.base.problem) b.owners b.queue b.claims c.args.worker c.in-Some.person j
    c.invariant.ensures.placed_once (sym c.in-Some.ensures.claim)
    (ap (λ o. owner_of o j) (sym c.owners.ensures.owners) ∙ h)

pub refute-requires-clause-person : goal.refute-requires-clause-person
refute-requires-clause-person c =
    let b = c.args.book.now in
    let problem = ap (λ (s : ScaledProblem). s.problem) (c.deref.ensures ∙ c.scaled.ensures.scaled) in
    subst (λ (rows : List Listing). IsNumber (length rows) c.in-Some.person) (sym problem)
    (held_person (length b.base.problem) b.owners b.queue b.claims c.args.worker c.in-Some.person
    c.invariant.ensures.placed_once (sym c.in-Some.ensures.claim))
