use Rattle.std.proofs.Common.{ℤ, List, sym, subst}
use Rattle.std.specs.Arc.{arc_value}
use Rattle.assign_core.specs.Prices.{IsBelow}
use Rattle.bidder.specs.Offers.{benefits_at}
use Rattle.candidates.specs.Candidates.{AreCandidates}
use Rattle.candidates.proofs.Kept.{stay}
use Rattle.price_log.specs.History.{today}
use Rattle.auction_book.specs.Book.{BookData, prices_of}
use Rattle.auction_book.proofs.book.Book.put_list.Goals as goal

pub invariant_of-self : goal.invariant_of-self
invariant_of-self c =
    let s = c.self.inside in
    let v = c.self.invariant in
    let row = benefits_at (arc_value s.scaled) c.args.person in
    let h = subst (λ (b : BookData). (q : List ℤ) × IsBelow q (prices_of b) × AreCandidates (benefits_at b.base c.args.person) q c.args.list)
    (sym c.self.view_is) c.requires.list in (
      v.0,
      v.1,
      v.2,
      v.3,
      c.put.ensures (arc_value s.scaled) (today s.log) v.4 (stay row h.0 (today s.log) c.args.list h.1 h.2),
    )
