use Rattle.std.proofs.Common.{List, ℤ, sym, subst}
use Rattle.assign_core.specs.Prices.{IsBelow}
use Rattle.price_log.specs.History.{IsEarlier}
use Rattle.auction_book.specs.Book.{BookData, prices_of, version_of}
use Rattle.auction_book.specs.Follows.{GoesOn}
use Rattle.auction_book.proofs.Following.{caught_up_follows}
use Rattle.auction_book.proofs.WorkerSteps.{IsOwn, caught_up_own}
use Rattle.auction_tests.proofs.book.calls.catch_up.Goals as goal

pub returns-clause-on : goal.returns-clause-on
returns-clause-on c = subst (GoesOn c.args.book.now) (sym c.catch_up.ensures.book) (caught_up_follows c.args.book.now c.args.worker c.invariant.ensures).goes_on

pub returns-clause-below : goal.returns-clause-below
returns-clause-below c =
    let b = c.args.book.now in
    let own = subst (λ (x : BookData). IsOwn x (prices_of b) (version_of b)) (sym c.catch_up.ensures.book)
    (caught_up_own c.args.worker b c.invariant.ensures) in
    subst (λ (t : List ℤ). IsBelow t (prices_of c.catch_up.new.self)) (sym c.catch_up.ensures.table) own.long

pub returns-clause-earlier : goal.returns-clause-earlier
returns-clause-earlier c =
    let b = c.args.book.now in
    let new = c.catch_up.new in
    let own = subst (λ (x : BookData). IsOwn x (prices_of b) (version_of b)) (sym c.catch_up.ensures.book)
    (caught_up_own c.args.worker b c.invariant.ensures) in
    subst (λ (t : List ℤ). IsEarlier new.self.log t new.version) (sym c.catch_up.ensures.table)
    (subst (λ v. IsEarlier new.self.log (prices_of b) v) (sym c.catch_up.ensures.version) own.earlier)
