use Rattle.std.proofs.Common.{◌≡◌}
use Rattle.std.specs.VecDeque.{deque_capacity}
use Rattle.auction_book.specs.Phases.{persons}
use Rattle.auction_book.proofs.book.opening.queue_all.Given as goal

abbrev pub invariant-loop-i : goal.invariant-loop-i
invariant-loop-i l = record {
  queue : l.queue.items ≡ persons l.i;
  capacity : deque_capacity l.queue ≡ deque_capacity l.fn.queue;
}
