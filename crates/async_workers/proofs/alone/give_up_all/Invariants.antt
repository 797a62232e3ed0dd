use Rattle.auction_book.specs.Follows.{GoesOn}
use Rattle.auction_book.specs.Free.{IsFree}
use Rattle.async_workers.proofs.Single.{HaveNone}
use Rattle.async_workers.proofs.alone.give_up_all.Given as goal

abbrev pub invariant-loop-before : goal.invariant-loop-before
invariant-loop-before l = record {
  goes_on : GoesOn l.initial.book l.book;
  free : IsFree l.book;
  none : HaveNone l.book.claims l.before;
}
