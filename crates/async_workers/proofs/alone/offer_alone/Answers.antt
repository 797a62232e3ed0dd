use Rattle.std.proofs.Common.{◌∙◌, length, sym, ap, subst}
use Rattle.assign_core.specs.Numbered.{IsNumber}
use Rattle.assign_core.proofs.Matchings.{below_itself}
use Rattle.scaled_values.specs.Scaled.{ScaledProblem}
use Rattle.auction_book.specs.Book.{BookData, prices_of}
use Rattle.auction_book.specs.Claims.{IsAsked}
use Rattle.auction_book.proofs.Following.{goes_on_through}
use Rattle.auction_book.proofs.Runs.{after_claim-base}
use Rattle.async_workers.proofs.Single.{after_claim-stopped, alone_claimed, alone_prepared}
use Rattle.async_workers.proofs.alone.offer_alone.Goals as goal

pub prepare-offer-requires-clause-table : goal.prepare-offer-requires-clause-table
prepare-offer-requires-clause-table c =
    let base = c.deref.ensures ∙ c.scaled.ensures.scaled in
    ap length c.prices.ensures.prices ∙ c.claim-claim.ensures.free.sizes.priced ∙ sym (ap (λ (s : ScaledProblem). length s.problem) base)

pub prepare-offer-requires-clause-asked : goal.prepare-offer-requires-clause-asked
prepare-offer-requires-clause-asked c =
    let base = c.deref.ensures ∙ c.scaled.ensures.scaled ∙ ap (λ (b : BookData). b.base) c.claim-claim.ensures.book
    ∙ after_claim-base c.args.book.now 1 c.claim-claim.result in
    subst (λ (s : ScaledProblem). IsAsked s c.claim-claim.result) (sym base) c.claim-claim.ensures.asked

pub submit_offer-requires-clause-worker : goal.submit_offer-requires-clause-worker
submit_offer-requires-clause-worker c =
    let follows = alone_claimed c.args.book.now c.claim-claim.new.self c.claim-claim.result c.claim-claim.ensures.book in
    subst (λ n. IsNumber n 1) (sym follows.goes_on.workers) c.requires.worker

pub submit_offer-requires-clause-prepared : goal.submit_offer-requires-clause-prepared
submit_offer-requires-clause-prepared c =
    let b = c.claim-claim.new.self in (
      prices_of b,
      c.version.result,
      below_itself (prices_of b),
      alone_prepared c.args.book.now b c.deref.result.now c.prices.result.now c.version.result c.claim-claim.result
          c.prepare-offer.result c.invariant.ensures c.requires.worker c.requires.none
          c.claim-claim.ensures.answer c.claim-claim.ensures.book (c.deref.ensures ∙ c.scaled.ensures.scaled) c.prices.ensures.prices c.prepare-offer.ensures,
    )

pub returns-clause-goes_on : goal.returns-clause-goes_on
returns-clause-goes_on c =
    let claimed = alone_claimed c.args.book.now c.claim-claim.new.self c.claim-claim.result c.claim-claim.ensures.book in
    goes_on_through c.args.book.now c.claim-claim.new.self c.submit_offer.new.book claimed.goes_on c.submit_offer.ensures.ends.follows.goes_on

pub returns-clause-stopped : goal.returns-clause-stopped
returns-clause-stopped c =
    c.submit_offer.ensures.ends.stopped ∙ ap (λ (b : BookData). b.stopped) c.claim-claim.ensures.book ∙
    after_claim-stopped c.args.book.now 1 c.claim-claim.result
