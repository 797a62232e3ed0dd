use Rattle.std.proofs.Common.{vec_len}
use Rattle.std.specs.List.{All}
use Rattle.crossbeam_queue.specs.Passes.{view, IsSamePass}
use Rattle.auction_book.specs.Book.{BookData}
use Rattle.async_workers.specs.declared.rule.LastSession.{LastSession}
use Rattle.async_workers.specs.inside.Passing.{IsClosing}
use Rattle.async_workers.specs.Desk.{IsReady, IsTrueOf}
use Rattle.async_workers.proofs.place.closing.meet_all.Given as goal

abbrev pub invariant-loop-desk : goal.invariant-loop-desk
invariant-loop-desk l = record {
  same : IsSamePass l.initial.pass l.pass;
  closing : (t : LastSession) (taken : BookData) → IsClosing (view l.initial.pass) t taken → IsClosing (view l.pass) t taken;
  ready : All (IsReady l.queue.table.shared.table_id) l.desks.items;
  told : (t : LastSession) (taken : BookData) → IsClosing (view l.initial.pass) t taken →
      All (IsTrueOf taken) l.desks.items → All (IsTrueOf taken) l.initial.desks.items;
}

abbrev pub decreases-loop-desk : goal.decreases-loop-desk
decreases-loop-desk l = vec_len l.desks
