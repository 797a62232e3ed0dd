use Rattle.std.proofs.Common.{◌≡◌, length, ap, ◌∙◌, arith}
use Rattle.scaled_values.specs.Scaled.{ScaledProblem}
use Rattle.auction_book.specs.Book.{persons_of, prices_of}
use Rattle.rounds.proofs.Listed.{lists_as, lists_on, round_lists}
use Rattle.rounds.proofs.Waiting.{queue_few}
use Rattle.rounds.proofs.Offered.{can_offer_as}
use Rattle.rounds.proofs.rounds.run_shared_round.Goals as goal

pub make-requires-clause-can : goal.make-requires-clause-can
make-requires-clause-can g c =
    let claimed = c.in_ok-claim_all.ensures.claimed in
    can_offer_as c.claim_all.new.book c.claim_all.new.persons.items c.as_slice.result.now c.deref.result.now
    c.prices.result.now c.ask-ask.result claimed.going claimed.claimed (c.deref.ensures ∙
    c.scaled.ensures.scaled) c.prices.ensures.prices c.ask-ask.ensures c.as_slice.ensures.value

pub make-requires-clause-few : goal.make-requires-clause-few
make-requires-clause-few g c =
    let claimed = c.in_ok-claim_all.ensures.claimed in
    let few = queue_few c.args.book.now c.requires.rest.going.free in
    let waiting : length c.as_slice.result.now ≡ length c.args.book.now.queue = ap length (c.as_slice.ensures.value ∙ claimed.all) in
    let n : length c.deref.result.now.problem ≡ persons_of c.args.book.now =
    ap (λ (s : ScaledProblem). length s.problem) (c.deref.ensures ∙ c.scaled.ensures.scaled) ∙
    ap persons_of claimed.rest in
    omega arith

pub make-requires-clause-lists : goal.make-requires-clause-lists
make-requires-clause-lists g c =
    let mid = c.claim_all.new.book in
    lists_as c.deref.result.now mid.base c.prices.result.now (prices_of mid) c.args.lists.now
    (c.deref.ensures ∙ c.scaled.ensures.scaled) c.prices.ensures.prices
    (lists_on c.args.book.now mid c.args.lists.now c.claim_all.ensures.goes_on c.requires.lists)

pub returns-in-Some-clause-lists : goal.returns-in-Some-clause-lists
returns-in-Some-clause-lists g c = round_lists c.args.book.now c.claim_all.new.book c.submit_all.new.book c.deref.result.now c.prices.result.now
    c.make.new.lists (c.deref.ensures ∙ c.scaled.ensures.scaled) c.prices.ensures.prices c.claim_all.ensures.goes_on
    c.submit_all.ensures.goes_on c.in_ok-make.ensures.lists

pub returns-in-None-clause-lists : goal.returns-in-None-clause-lists
returns-in-None-clause-lists g c = round_lists c.args.book.now c.claim_all.new.book c.submit_all.new.book c.deref.result.now c.prices.result.now
    c.make.new.lists (c.deref.ensures ∙ c.scaled.ensures.scaled) c.prices.ensures.prices c.claim_all.ensures.goes_on
    c.submit_all.ensures.goes_on c.in_ok-make.ensures.lists
