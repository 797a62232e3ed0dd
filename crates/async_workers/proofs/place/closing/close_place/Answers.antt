use Rattle.std.proofs.Common.{◌∙◌, sym, subst, Some, inl}
use Rattle.std.specs.List.{All}
use Rattle.std.proofs.lemmas.List.Elements.{All-pop, All-push}
use Rattle.auction_book.specs.Book.{BookData}
use Rattle.auction_book.specs.Free.{IsFree}
use Rattle.async_workers.specs.declared.rule.LastSession.{LastSession}
use Rattle.async_workers.specs.Desk.{IsAway, IsReady, IsTrueOf, session_by}
use Rattle.async_workers.proofs.place.closing.close_place.Goals as goal

pub meet_all-requires-clause-closing : goal.meet_all-requires-clause-closing
meet_all-requires-clause-closing g c =
    let ready = All-pop (IsReady c.args.place) c.args.desks.items c.pop.new.self.items (Some c.in-Some.closer) c.in-Some.ensures.items c.requires.ready in
    let t : LastSession = session_by c.in-Some.closer ready.1.1.0 ready.1.1.1 in
    (t, c.take_book-book.result, inl (c.take_book-book.ensures.took t (c.into_pass-pass.ensures.view ∙ ready.1.1.2)).view)

pub meet_all-requires-clause-ready : goal.meet_all-requires-clause-ready
meet_all-requires-clause-ready g c =
    let ready = All-pop (IsReady c.args.place) c.args.desks.items c.pop.new.self.items (Some c.in-Some.closer) c.in-Some.ensures.items c.requires.ready in
    subst (λ p. All (IsReady p) c.pop.new.self.items) (sym c.place.view_is) ready.0

pub returns-clause-current : goal.returns-clause-current
returns-clause-current g c =
    let desk = c.in-Some.closer in
    let b = c.take_book-book.result in
    let ready = All-pop (IsReady c.args.place) c.args.desks.items c.pop.new.self.items (Some desk) c.in-Some.ensures.items c.requires.ready in
    let t : LastSession = session_by desk ready.1.1.0 ready.1.1.1 in
    let took = λ (taken : BookData) (put : BookData) (away : IsAway desk taken put). c.take_book-book.ensures.took
    (session_by desk taken put) (c.into_pass-pass.ensures.view ∙ away) in
    let others = c.meet_all.ensures t b (inl (took ready.1.1.0 ready.1.1.1 ready.1.1.2).view) in
    subst (λ b. All (IsTrueOf b) c.args.desks.items) (sym c.into_book.ensures)
    (subst (All (IsTrueOf b)) (sym c.in-Some.ensures.items) (All-push (IsTrueOf b) c.pop.new.self.items desk others
    (λ taken put away. (took taken put away).told)))

pub returns-clause-free : goal.returns-clause-free
returns-clause-free g c =
    let desk = c.in-Some.closer in
    let ready = All-pop (IsReady c.args.place) c.args.desks.items c.pop.new.self.items (Some desk) c.in-Some.ensures.items c.requires.ready in
    subst IsFree (sym c.into_book.ensures) (c.take_book-book.ensures.took (session_by desk ready.1.1.0 ready.1.1.1)
    (c.into_pass-pass.ensures.view ∙ ready.1.1.2)).free

pub take_book-book-requires-clause-away : goal.take_book-book-requires-clause-away
take_book-book-requires-clause-away g c =
    let ready = All-pop (IsReady c.args.place) c.args.desks.items c.pop.new.self.items (Some c.in-Some.closer) c.in-Some.ensures.items c.requires.ready in
    (session_by c.in-Some.closer ready.1.1.0 ready.1.1.1, c.into_pass-pass.ensures.view ∙ ready.1.1.2)

pub meet_all-requires-clause-queue : goal.meet_all-requires-clause-queue
meet_all-requires-clause-queue g c =
    let ready = All-pop (IsReady c.args.place) c.args.desks.items c.pop.new.self.items (Some c.in-Some.closer) c.in-Some.ensures.items c.requires.ready in
    let pass = c.into_pass-pass.ensures in
    let same = c.take_book-book.ensures.queue in
    (same.0 ∙ pass.place ∙ ready.1.0 ∙ sym c.place.view_is, same.2 ∙ pass.idle)
