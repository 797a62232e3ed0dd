use Rattle.std.proofs.Common.{◌≡◌, ◌∙◌, ap, subst, sym, true}
use Rattle.std.proofs.lemmas.Result.{on_err_weaker, on_ok_weaker}
use Rattle.auction_book.specs.Book.{BookData}
use Rattle.auction_book.specs.Follows.{GoesOn}
use Rattle.auction_book.specs.Phases.{is_over}
use Rattle.auction_book.specs.Session.{next_if_over}
use Rattle.async_workers.proofs.Single.{alone_next, either_way, next_if_over-stopped}
use Rattle.async_workers.proofs.alone.step_alone.Goals as goal

pub returns-clause-goes_on : goal.returns-clause-goes_on
returns-clause-goes_on c =
    let mid = c.offer_alone.new.book in
    let new = c.begin_next_if_over.new.book in
    let e = c.in_ok-offer_alone.ensures in
    let next = on_ok_weaker c.begin_next_if_over.result
    (λ (is : new ≡ next_if_over mid). (alone_next c.args.book.now mid new e.goes_on e.free e.none is).0)
    c.begin_next_if_over.ensures.ok in
    let same = on_err_weaker c.begin_next_if_over.result (λ (is : (new ≡ mid) × (is_over mid ≡ true)). subst
    (GoesOn c.args.book.now) (sym is.0) e.goes_on) c.begin_next_if_over.ensures.err in
    either_way (GoesOn c.args.book.now new) c.begin_next_if_over.result next same

pub returns-clause-none : goal.returns-clause-none
returns-clause-none c =
    let mid = c.offer_alone.new.book in
    let new = c.begin_next_if_over.new.book in
    let e = c.in_ok-offer_alone.ensures in
    on_ok_weaker c.begin_next_if_over.result
    (λ (is : new ≡ next_if_over mid). (alone_next c.args.book.now mid new e.goes_on e.free e.none is).1)
    c.begin_next_if_over.ensures.ok

pub returns-clause-stopped : goal.returns-clause-stopped
returns-clause-stopped c =
    let mid = c.offer_alone.new.book in
    let new = c.begin_next_if_over.new.book in
    let kept = c.in_ok-offer_alone.ensures.stopped in
    let next = on_ok_weaker c.begin_next_if_over.result
    (λ (is : new ≡ next_if_over mid). ap (λ (b : BookData). b.stopped) is ∙ next_if_over-stopped mid ∙ kept)
    c.begin_next_if_over.ensures.ok in
    let same = on_err_weaker c.begin_next_if_over.result (λ (is : (new ≡ mid) × (is_over mid ≡ true)).
    ap (λ (b : BookData). b.stopped) is.0 ∙ kept) c.begin_next_if_over.ensures.err in
    either_way (new.stopped ≡ c.args.book.now.stopped) c.begin_next_if_over.result next same
