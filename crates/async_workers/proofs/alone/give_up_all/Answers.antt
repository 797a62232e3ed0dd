use Rattle.std.proofs.Common.{◌+◌, sym, subst}
use Rattle.auction_book.specs.Book.{BookData}
use Rattle.async_workers.proofs.Single.{HaveNone, all_given_up, none_first, one_given_up}
use Rattle.auction_book.proofs.Following.{goes_on_itself}
use Rattle.async_workers.proofs.alone.give_up_all.Goals as goal

pub loop-before-init : goal.loop-before-init
loop-before-init c = record { goes_on = goes_on_itself c.args.book.now; free = c.invariant.ensures; none = none_first c.args.book.now.claims }

pub loop-before-preserved : goal.loop-before-preserved
loop-before-preserved c =
    let b = c.loop-before.book in
    let e = c.give_up.ensures in
    record {
      goes_on = all_given_up c.args.book.now b c.give_up.new.self (c.loop-before.before + 1) c.loop-before.invariant.goes_on e.book;
      free = e.free;
      none = subst (λ (x : BookData). HaveNone x.claims (c.loop-before.before + 1)) (sym e.book)
          (one_given_up b c.loop-before.before c.loop-before.invariant.none);
    }
