-- The core: a book and its workers, over lists of events.
use Rattle.std.specs.Prelude.{◌≡◌, ℕ, ℤ, List, [], ◌∷◌, None, Bool, MatchBool, nat_le, ◌&&◌, length, replicate}
use Rattle.assign_core.specs.Numbered.{IsNumber, numbered, renumbered}
use Rattle.assign_core.specs.Prices.{IsBelow}
use Rattle.scaled_values.specs.Scaled.{ScaledProblem}
use Rattle.price_log.specs.History.{IsEarlier}
use Rattle.auction_book.specs.declared.schedule.Event.{Event}
use Rattle.auction_book.specs.declared.schedule.WorkerState.{WorkerState}
use Rattle.auction_book.specs.Book.{BookData, prices_of}
use Rattle.auction_book.specs.Claims.{claim_of}
use Rattle.auction_book.specs.Free.{IsFree}
use Rattle.auction_book.specs.Phases.{opened}
use Rattle.auction_book.specs.Session.{IsPrepared, Submits, book_left, book_next, prepared, table_kept_up, version_kept_up}

-- the book, and for each worker its table with its version, its prepared offer and its reported
-- acceptances
pub record CoreData : Type 0 where
  pub book : BookData
  pub states : List WorkerState

-- a worker with these prices as version 0, no offer and no acceptances
abbrev pub state_of_prices : List ℤ → WorkerState
state_of_prices prices = record { table = prices; version = 0; offer = None; accepted = 0 }

-- the core before the first event
abbrev pub core_opened : ScaledProblem → List ℤ → ℕ → CoreData
core_opened s prices workers = record { book = opened s prices workers; states = replicate workers (state_of_prices prices) }

-- a worker's state after the rest of an event, from the book after the submission
abbrev pub state_next : Event → BookData → WorkerState → WorkerState
state_next e b state = record {
  table = table_kept_up e.catch_up b state.table;
  version = version_kept_up e.catch_up b state.version;
  offer = prepared (book_next e.catch_up b e.worker).base (table_kept_up e.catch_up b state.table)
      (version_kept_up e.catch_up b state.version) (claim_of (book_next e.catch_up b e.worker));
  accepted = numbered b.counts e.worker 0;
}

-- the core after the rest of an event, from the book after the submission
abbrev pub core_next : CoreData → Event → WorkerState → BookData → CoreData
core_next core e state b = record {
  book = book_left e.catch_up b e.worker;
  states = renumbered core.states e.worker (state_next e b state);
}

-- there is a worker with this number
abbrev pub is_worker : CoreData → ℕ → Bool
is_worker core worker = nat_le 1 worker && nat_le worker (length core.states)

-- the state of a worker
abbrev pub state_at : CoreData → ℕ → WorkerState
state_at core worker = numbered core.states worker (state_of_prices [])

-- the core after one event; an event for a number without a worker changes nothing
abbrev pub Happens : CoreData → Event → CoreData → Type 0
Happens core e new = MatchBool (is_worker core e.worker)
    ((b : BookData) × Submits core.book e.worker (state_at core e.worker).offer b × (new ≡ core_next core e (state_at core e.worker) b))
    (new ≡ core)

-- the core after these events, one after another
abbrev pub Run : CoreData → List Event → CoreData → Type 0
Run core [] new = new ≡ core
Run core (e ∷ events) new = (mid : CoreData) × Happens core e mid × Run mid events new

-- what holds of each worker: no price of its table is above the book's, and the table is the log's
-- as far back as the log reaches. Its reported acceptances are the book's, and its prepared offer
-- is that of the person that it claimed
pub record IsWorkerState (b : BookData) (worker : ℕ) (state : WorkerState) : Type 0 where
  pub long : IsBelow state.table (prices_of b)
  pub earlier : IsEarlier b.log state.table state.version
  pub told : state.accepted ≡ numbered b.counts worker 0
  pub prepared : IsPrepared b worker state.table state.version state.offer

-- what holds after each event
pub record IsFit (core : CoreData) : Type 0 where
  pub book : IsFree core.book
  pub states : length core.states ≡ length core.book.claims
  pub each : (worker : ℕ) → IsNumber (length core.states) worker → IsWorkerState core.book worker (state_at core worker)
