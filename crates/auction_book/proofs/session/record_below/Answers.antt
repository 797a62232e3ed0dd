use Rattle.std.proofs.Common.{ap, subst, sym, ◌∙◌, length, List, Option, ℕ}
use Rattle.assign_core.specs.Rows.{Listing}
use Rattle.assign_core.specs.Reach.{IsPath}
use Rattle.assign_core.specs.Matching.{owner_of}
use Rattle.scaled_values.specs.Scaled.{ScaledProblem}
use Rattle.hall_refuter.specs.Search.{IsFound}
use Rattle.auction_book.proofs.Floor.{no_path}
use Rattle.assign_core.specs.Numbered.{IsNumber}
use Rattle.auction_book.proofs.Places.{held_person, unowned}
use Rattle.auction_book.proofs.session.record_below.Goals as goal

pub refute-requires-clause-alone : goal.refute-requires-clause-alone
refute-requires-clause-alone c = λ j h.
    let b = c.args.book.now in
    unowned (length b.base.problem) b.owners b.queue b.claims c.args.worker c.args.below.person j
    c.invariant.ensures.placed_once c.requires.held (ap (λ o. owner_of o j) (sym c.owners.ensures.owners) ∙ h)

pub unreachable-requires : goal.unreachable-requires
unreachable-requires c =
    let b = c.args.book.now in
    let i = c.args.below.person in
    let problem = ap (λ (s : ScaledProblem). s.problem) (c.deref.ensures ∙ c.scaled.ensures.scaled) in
    let found = subst (IsFound c.deref.result.now.problem c.owners.result.now i) c.in-Path.is c.in_ok-hall.ensures.found in
    let path : IsPath b.base.problem b.owners i c.in-Path.field-0.items =
    subst (λ (rows : List Listing). IsPath rows b.owners i c.in-Path.field-0.items) problem
    (subst (λ (o : List (Option ℕ)). IsPath c.deref.result.now.problem o i c.in-Path.field-0.items)
    c.owners.ensures.owners found) in
    no_path b c.requires.under.0 i c.in-Path.field-0.items c.invariant.ensures c.requires.under.1 c.requires.under.2 path

pub refute-requires-clause-person : goal.refute-requires-clause-person
refute-requires-clause-person c =
    let b = c.args.book.now in
    let problem = ap (λ (s : ScaledProblem). s.problem) (c.deref.ensures ∙ c.scaled.ensures.scaled) in
    subst (λ (rows : List Listing). IsNumber (length rows) c.args.below.person) (sym problem)
    (held_person (length b.base.problem) b.owners b.queue b.claims c.args.worker c.args.below.person
    c.invariant.ensures.placed_once c.requires.held)
