use Rattle.std.proofs.Common.{◌∙◌, ap, sym, subst}
use Rattle.std.specs.Arc.{arc_value}
use Rattle.assign_core.specs.Prices.{IsBelow}
use Rattle.auction_book.specs.Book.{prices_of}
use Rattle.async_workers.specs.Desk.{DeskData, session_by}
use Rattle.async_workers.proofs.Lists.{handed}
use Rattle.async_workers.proofs.place.Desk.take.Goals as goal

pub returns-clause-took : goal.returns-clause-took
returns-clause-took g c t e =
    rw (c.put_listed.ensures.book, c.book_mut.ensures.value) (c.take_book-book.ensures.took t (ap (λ (d : DeskData). d.view) c.self.view_is ∙ e))

pub put_listed-requires : goal.put_listed-requires
put_listed-requires g c =
    let a = c.requires.away in
    let is = c.self.view_is in
    let told = (c.take_book-book.ensures.took (session_by c.args.self.now a.0 a.1) (ap (λ (d : DeskData). d.view) is ∙ a.2)).told in
    let s = c.self.inside in
    handed (arc_value s.scaled) s.known.table c.take_book-book.result c.book_mut.result.now s.listed
    c.self.invariant.1 (ap (λ (d : DeskData). d.base) is ∙ told.base)
    (subst (λ t. IsBelow t (prices_of c.take_book-book.result)) (sym (ap (λ (d : DeskData). d.known.table) is)) told.below)
    c.book_mut.ensures.value
