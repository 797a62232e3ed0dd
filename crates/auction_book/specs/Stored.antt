-- How a book is stored, and how a contract sees it.
use Rattle.std.specs.Prelude.{◌≡◌, ◌≤◌, count_by, length, is_some}
use Rattle.std.specs.Arc.{arc_value}
use Rattle.std.specs.VecDeque.{deque_capacity}
use Rattle.candidates.specs.Candidates.{HaveCandidates}
use Rattle.price_log.specs.History.{today}
use Rattle.auction_book.specs.declared.book.Book.TheInside.{Inside}
use Rattle.auction_book.specs.Book.{BookData}
use Rattle.auction_book.specs.Free.{IsFree}

-- the book of these fields
abbrev pub book_of : Inside → BookData
book_of b = record {
  base = arc_value b.scaled;
  ask = b.ask;
  start = b.start;
  start_version = b.start_version;
  owners = b.owners.items;
  queue = b.queue.items;
  claims = b.claims.items;
  counts = b.counts.items;
  taken = b.taken.items;
  log = b.log;
  refuted = b.refuted;
  stopped = b.stopped;
}

-- the queue has its room, the owned objects and the workers are counted, the book is free, and the
-- lists are candidates at its prices
abbrev pub IsKept : Inside → Type 0
IsKept b = (length b.owners.items ≤ deque_capacity b.queue) × (b.owned ≡ count_by is_some b.owners.items) ×
    (b.workers ≡ length b.claims.items) × IsFree (book_of b) × HaveCandidates (arc_value b.scaled) (today b.log) b.lists
