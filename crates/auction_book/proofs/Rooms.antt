-- The queue has room for each person, and counts fit.
use Rattle.std.proofs.Common.{ℕ, ◌+◌, ◌^◌, ◌<◌, ◌≤◌, length, get_or, arith, sum, sym, subst}
use Rattle.std.proofs.lemmas.List.Sums.{get_or-le-sum_by}
use Rattle.price_log.proofs.Versions.{version_few}
use Rattle.auction_book.specs.Book.{BookData, Holds}
use Rattle.auction_book.specs.Free.{IsFree}
use Rattle.auction_book.proofs.Places.{has_room}

-- while a person is claimed the queue has room
pub room_in_queue : (b : BookData) (worker person : ℕ) → IsFree b → Holds b worker person → length b.queue < length b.owners
room_in_queue b worker person free held = subst (λ m. length b.queue < m) (sym free.owners_match.long)
    (has_room (length b.base.problem) b.owners b.queue b.claims worker person free.placed_once held)

-- a count plus one fits in 128 bits
pub count_fits : (b : BookData) (k : ℕ) → IsFree b → k < length b.counts → get_or b.counts k 0 + 1 < 2 ^ 128
count_fits b k free lt =
    let c : get_or b.counts k 0 ≤ sum b.counts = get_or-le-sum_by (λ (x : ℕ). x) b.counts k 0 lt in
    let t = free.counts_total in
    let v = version_few b.log free.log_ascends in
    omega arith
