use Rattle.std.proofs.Common.{◌≡◌, ◌∙◌, ◌≤◌, length, sym, ap, subst, arith}
use Rattle.bidder.specs.Offers.{benefits_at}
use Rattle.candidates.specs.Candidates.{AreCandidates}
use Rattle.price_log.specs.History.{last_version, table_at}
use Rattle.price_log.proofs.Histories.{today-at}
use Rattle.auction_book.proofs.Places.{held_person}
use Rattle.async_workers.proofs.place.listing.take_listed.Goals as goal

pub take_list-requires : goal.take_list-requires
take_list-requires c =
    let b = c.args.book.now in
    (held_person (length b.base.problem) b.owners b.queue b.claims c.args.worker c.in_ok-person.person
    c.invariant.ensures.placed_once (sym c.in_ok-person.ensures.claim)).first

pub returns-clause-listed : goal.returns-clause-listed
returns-clause-listed c = λ table early.
    let b = c.args.book.now in
    let now : c.args.version ≡ last_version b.log = omega (arith, c.if-version.false, c.version.ensures.version) in
    let kept : b.log.first_kept ≤ c.args.version = omega (arith, now) in
    let same = early.same kept ∙ ap (table_at b.log) now ∙ today-at b.log in (
      (held_person (length b.base.problem) b.owners b.queue b.claims c.args.worker c.in_ok-person.person
          c.invariant.ensures.placed_once (sym c.in_ok-person.ensures.claim)).first,
      subst (λ t. AreCandidates (benefits_at b.base c.in_ok-person.person) t c.in_ok-list.list) (sym same) c.in_ok-list.ensures.list,
    )
