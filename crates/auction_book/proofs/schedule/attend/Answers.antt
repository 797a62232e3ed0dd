use Rattle.std.proofs.Common.{◌≡◌, None, Option, length, sym, ap, subst, ◌∙◌}
use Rattle.assign_core.specs.Numbered.{IsNumber, numbered}
use Rattle.bidder.specs.declared.offers.Offer.{Offer}
use Rattle.scaled_values.specs.Scaled.{ScaledProblem}
use Rattle.auction_book.specs.Book.{BookData}
use Rattle.auction_book.specs.Claims.{IsAsked, after_claim, claim_of}
use Rattle.auction_book.specs.Session.{IsPrepared, Submits, book_next, next_if_over}
use Rattle.auction_book.proofs.WorkerSteps.{noted_of}
use Rattle.auction_book.proofs.Runs.{IsAttended, after_claim-base, attended, next_long, next_workers, same_offers}
use Rattle.auction_book.proofs.Runs.{same_states}
use Rattle.auction_book.proofs.schedule.attend.Goals as goal
use Rattle.auction_book.proofs.schedule.attend.Goals.{After-deref, In_ok-begin_next_if_over, In_ok-submit_offer}

pub submit_offer-requires-clause-prepared : goal.submit_offer-requires-clause-prepared
submit_offer-requires-clause-prepared c =
    let s = c.args.state.now in (
      s.table,
      s.version,
      c.requires.state.long,
      subst (IsPrepared c.args.book.now c.args.event.worker s.table s.version) (sym c.take-offer.ensures.value)
          c.requires.state.prepared,
    )

submits : (c : In_ok-submit_offer) → Submits c.args.book.now c.args.event.worker c.args.state.now.offer c.submit_offer.new.book
submits c = subst (λ (o : Option Offer). Submits c.args.book.now c.args.event.worker o c.submit_offer.new.book) c.take-offer.ensures.value (
  c.submit_offer.result.note,
  noted_of c.args.book.now c.submit_offer.new.book c.args.event.worker
      c.take-offer.result c.submit_offer.result.note c.submit_offer.result.outcome _ c.in_ok-submit_offer.was
      c.submit_offer.ensures.handed_in,
)

attends : (c : In_ok-submit_offer) → IsAttended c.args.event.worker c.args.event.catch_up c.args.book.now
    c.submit_offer.new.book c.args.state.now.table c.args.state.now.version
attends c = attended c.args.event.worker c.args.event.catch_up c.args.book.now c.submit_offer.new.book
    c.args.state.now c.invariant.ensures c.requires.worker c.requires.state (submits c)

pub take_prices-requires-clause-worker : goal.take_prices-requires-clause-worker
take_prices-requires-clause-worker c = (attends (goal.at.take_prices-requires-clause-worker c).In_ok-submit_offer).number

pub take_prices-requires-clause-earlier : goal.take_prices-requires-clause-earlier
take_prices-requires-clause-earlier c = (attends (goal.at.take_prices-requires-clause-earlier c).In_ok-submit_offer).own.earlier

-- the book before the claim
before_claim : (c : In_ok-begin_next_if_over) → c.begin_next_if_over.new.book ≡ book_next c.args.event.catch_up c.submit_offer.new.book c.args.event.worker
before_claim c = c.in_ok-begin_next_if_over.ensures.ok ∙ ap next_if_over c.take_prices.ensures.book

pub claim-claim-requires-clause-worker : goal.claim-claim-requires-clause-worker
claim-claim-requires-clause-worker c =
    let is = attends (goal.at.claim-claim-requires-clause-worker c).In_ok-submit_offer in
    let now = before_claim (goal.at.claim-claim-requires-clause-worker c).In_ok-begin_next_if_over in
    subst (λ (b : BookData). IsNumber (length b.claims) c.args.event.worker) (sym now) (next_workers c.args.event.worker c.args.event.catch_up _ _ _ _ is)

pub claim-claim-requires-clause-none : goal.claim-claim-requires-clause-none
claim-claim-requires-clause-none c =
    let is = attends (goal.at.claim-claim-requires-clause-none c).In_ok-submit_offer in
    let now = before_claim (goal.at.claim-claim-requires-clause-none c).In_ok-begin_next_if_over in
    subst (λ (b : BookData). numbered b.claims c.args.event.worker None ≡ None) (sym now) is.ready.none

-- the problem stays
base : (c : After-deref) → c.deref.result.now ≡ c.begin_next_if_over.new.book.base
base c = c.deref.ensures ∙ c.scaled.ensures.scaled ∙ ap (λ (b : BookData). b.base) c.claim-claim.ensures.book ∙
    after_claim-base _ c.args.event.worker c.claim-claim.result

pub prepare-state-requires-clause-table : goal.prepare-state-requires-clause-table
prepare-state-requires-clause-table c =
    let at = goal.at.prepare-state-requires-clause-table c in
    let is = attends at.In_ok-submit_offer in
    let same = base at.After-deref ∙ ap (λ (b : BookData). b.base) (before_claim at.In_ok-begin_next_if_over) in
    ap length c.take_prices.ensures.table ∙ next_long c.args.event.worker c.args.event.catch_up _ _ _ _ is ∙
    sym (ap (λ (s : ScaledProblem). length s.problem) same)

pub prepare-state-requires-clause-asked : goal.prepare-state-requires-clause-asked
prepare-state-requires-clause-asked c =
    subst (λ (s : ScaledProblem). IsAsked s c.claim-claim.result)
    (sym (base (goal.at.prepare-state-requires-clause-asked c).After-deref)) c.claim-claim.ensures.asked

pub returns : goal.returns
returns c =
    let w = c.args.event.worker in
    let mid = c.submit_offer.new.book in
    let now = before_claim (goal.at.returns c).In_ok-begin_next_if_over in
    let answer = c.claim-claim.ensures.answer ∙ ap claim_of now in
    let same = base (goal.at.returns c).After-deref ∙ ap (λ (b : BookData). b.base) now in
    let table = c.take_prices.ensures.table in
    let version = c.take_prices.ensures.version in (
      mid,
      submits (goal.at.returns c).In_ok-submit_offer,
      c.claim-claim.ensures.book ∙ ap (λ (b : BookData). after_claim b w c.claim-claim.result) now ∙
          ap (after_claim (book_next c.args.event.catch_up mid w) w) answer,
      same_states _ _ _ _ _ _ _ _ table version (c.prepare-state.ensures ∙ same_offers _ _ _ _ _ _ _ _ same table version answer) c.accepted_by-state.ensures,
    )
