use Rattle.std.proofs.Common.{◌≡◌, None, false}
use Rattle.assign_core.specs.Numbered.{numbered}
use Rattle.auction_book.specs.Follows.{GoesOn}
use Rattle.auction_book.specs.Free.{IsFree}
use Rattle.async_workers.proofs.alone.go_alone.Given as goal

abbrev pub invariant-loop : goal.invariant-loop
invariant-loop g l = record {
  goes_on : GoesOn l.fn.book l.book;
  free : IsFree l.book;
  none : numbered l.book.claims 1 None ≡ None;
  resumed : l.book.stopped ≡ false;
}
