use Rattle.std.proofs.Common.{◌∙◌, None, ap}
use Rattle.assign_core.specs.Numbered.{numbered}
use Rattle.auction_book.specs.Book.{BookData}
use Rattle.auction_book.proofs.Following.{goes_on_through}
use Rattle.async_workers.proofs.Single.{alone_resumed, one_of}
use Rattle.async_workers.proofs.alone.go_alone.Goals as goal

pub loop-init : goal.loop-init
loop-init g c =
    let up = c.give_up_all.ensures in
    let on = c.resume.ensures in
    record {
      goes_on = alone_resumed c.args.book.now c.give_up_all.new.book c.resume.new.self up.goes_on on.book;
      free = on.free;
      none = ap (λ (b : BookData). numbered b.claims 1 None) on.book ∙ up.none 1;
      resumed = ap (λ (b : BookData). b.stopped) on.book;
    }

pub step_alone-requires-clause-worker : goal.step_alone-requires-clause-worker
step_alone-requires-clause-worker g c = one_of c.args.book.now c.loop.book c.requires c.loop.invariant.goes_on

pub loop-preserved : goal.loop-preserved
loop-preserved g c =
    let e = c.in_ok-step_alone.ensures in
    record {
      goes_on = goes_on_through c.args.book.now c.loop.book c.step_alone.new.book c.loop.invariant.goes_on
          e.goes_on;
      free = e.free;
      none = e.none;
      resumed = e.stopped ∙ c.loop.invariant.resumed;
    }
