use Rattle.std.proofs.Common.{rules, ◌≡◌, ◌∙◌, arith, refl, ap, SFits}
use Rattle.std.specs.Int.{w128, w64}
use Rattle.std.proofs.lemmas.Int.{ints}
use Rattle.auction_book.specs.Changes.{released}
use Rattle.auction_book.specs.Submissions.{IsHigh}
use Rattle.auction_book.proofs.Accepting.{placed_bid}
use Rattle.auction_book.proofs.book.Book.submit.Goals as goal
use Rattle.auction_book.proofs.book.Book.submit.Goals.{After-accept}

pub price-price-requires : goal.price-price-requires
price-price-requires c = (placed_bid c.args.self.now c.args.bid c.invariant.ensures c.requires.fitting (search rules)).priced

pub returns-then-is_low-clause-submitted : goal.returns-then-is_low-clause-submitted
returns-then-is_low-clause-submitted c =
    let eps = ap (λ a. a.eps) c.ask-ask.ensures in
    let f : SFits w64 c.ask-ask.result.eps = search rules in
    let g : SFits w128 c.args.bid.level = search rules in
    let p = c.price-price.ensures.range in
    let same : c.args.bid.phase ≡ c.args.self.now.ask.phase = search rules in (
      c.if-not-holds.ensures.holds.0 refl,
      same,
      omega (
        arith,
        ints,
        c.if-is_low.ensures,
        c.price-price.ensures.price,
        eps,
      ),
      omega (arith, ints, c.price-price.ensures.price),
      c.release-then-is_low.ensures.book,
    )

-- a bid that isn't too low is high
is_high : (c : After-accept) → IsHigh c.args.self.now c.args.bid
is_high c =
    let eps = ap (λ a. a.eps) c.ask-ask.ensures in
    let f : SFits w64 c.ask-ask.result.eps = search rules in
    let g : SFits w128 c.args.bid.level = search rules in
    let p = c.price-price.ensures.range in
    omega (arith, ints, c.if-is_low.ensures, c.price-price.ensures.price, eps)

pub returns-in-Ok-clause-submitted : goal.returns-in-Ok-clause-submitted
returns-in-Ok-clause-submitted c =
    let high = is_high (goal.at.returns-in-Ok-clause-submitted c).After-accept in
    let same : c.args.bid.phase ≡ c.args.self.now.ask.phase = search rules in
    (c.if-not-holds.ensures.holds.0 refl, same, high, c.in-Ok.ensures.ok.0, c.in-Ok.ensures.ok.1)

pub returns-in-Err-clause-submitted : goal.returns-in-Err-clause-submitted
returns-in-Err-clause-submitted c =
    let high = is_high (goal.at.returns-in-Err-clause-submitted c).After-accept in
    let same : c.args.bid.phase ≡ c.args.self.now.ask.phase = search rules in
    let book = c.release-in-Err.ensures.book ∙ ap (λ b. released b c.args.worker c.args.bid.person) c.in-Err.ensures.err in
    (c.if-not-holds.ensures.holds.0 refl, same, high, book)

pub accept-requires-clause-object : goal.accept-requires-clause-object
accept-requires-clause-object c = (placed_bid c.args.self.now c.args.bid c.invariant.ensures c.requires.fitting (search rules)).owned
