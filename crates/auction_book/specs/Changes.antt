-- How the calls change a book.
use Rattle.std.specs.Prelude.{ℕ, ◌+◌, List, [], ◌∷◌, ◌++◌, Option, None, Some, cond, nat_le, min, drop, fold, replicate, slice_index}
use Rattle.assign_core.specs.Numbered.{numbered, renumbered}
use Rattle.assign_core.specs.Hall.{HallLists}
use Rattle.assign_core.specs.Matching.{owner_of}
use Rattle.scaled_values.specs.Scaled.{fifth, floor_of, greatest_of}
use Rattle.bidder.specs.declared.offers.Bid.{Bid}
use Rattle.price_log.specs.History.{History}
use Rattle.price_log.specs.Changes.{after_raise, trimmed}
use Rattle.auction_book.specs.Book.{BookData, persons_of, prices_of, version_of}
use Rattle.auction_book.specs.Phases.{persons}

-- the book after the front of the queue is claimed
abbrev pub claimed : BookData → ℕ → BookData
claimed b worker = record b {
  queue = drop 1 b.queue;
  claims = renumbered b.claims worker (Some (slice_index b.queue 0));
}

-- the queue with the person, if there is one, at its back
abbrev pub requeued : List ℕ → Option ℕ → List ℕ
requeued queue None = queue
requeued queue (Some i) = queue ++ i ∷ []

-- the book after a bid is accepted: the bidder owns the object at its level, the claim is over, and
-- the previous owner waits
abbrev pub accepted : BookData → ℕ → Bid → BookData
accepted b worker bid = record b {
  owners = renumbered b.owners bid.object (Some bid.person);
  queue = requeued b.queue (owner_of b.owners bid.object);
  claims = renumbered b.claims worker None;
  counts = renumbered b.counts worker (numbered b.counts worker 0 + 1);
  log = after_raise b.log bid.object bid.level;
}

-- the book after the claim of a person ends: the person waits again
abbrev pub released : BookData → ℕ → ℕ → BookData
released b worker person = record b {
  queue = b.queue ++ person ∷ [];
  claims = renumbered b.claims worker None;
}

-- the book after the claim of a worker ends, if it has one
abbrev pub given_up : BookData → ℕ → Option ℕ → BookData
given_up b worker None = b
given_up b worker (Some person) = released b worker person

-- a book with a recorded Hall set
abbrev pub with_set : BookData → HallLists → BookData
with_set b lists = record b { refuted = Some lists }

-- the book after a Hall set is recorded and the claim ends
abbrev pub recorded : BookData → ℕ → ℕ → HallLists → BookData
recorded b worker person lists = with_set (released b worker person) lists

-- the least version that a worker took
abbrev pub least_taken : List ℕ → ℕ → ℕ
least_taken taken now = fold min now taken

-- a log without the versions before this one, unless it is shorter already
abbrev pub trimmed_to : History → ℕ → History
trimmed_to log version = cond (nat_le log.first_kept version) (trimmed log version) log

-- the book after the worker has taken the current prices, and the log has forgotten what no worker
-- needs
abbrev pub caught_up : BookData → ℕ → BookData
caught_up b worker = record b {
  taken = renumbered b.taken worker (version_of b);
  log = trimmed_to b.log (least_taken (renumbered b.taken worker (version_of b)) (version_of b));
}

-- the book in its next phase: nobody is assigned, all persons wait, and each price stays
abbrev pub phased : BookData → BookData
phased b = record b {
  ask = record {
    phase = b.ask.phase + 1;
    eps = fifth b.ask.eps;
    floor = floor_of b.base (greatest_of (prices_of b)) (fifth b.ask.eps);
  };
  start = prices_of b;
  start_version = version_of b;
  owners = replicate (persons_of b) None;
  queue = persons (persons_of b);
}
