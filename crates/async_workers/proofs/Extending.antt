-- Books that extend others.
use Rattle.std.proofs.Common.{ℕ, ℤ, List, None, true≢false, sym}
use Rattle.assign_core.specs.Prices.{IsBelow}
use Rattle.assign_core.proofs.Matchings.{below_through}
use Rattle.price_log.specs.History.{IsEarlier}
use Rattle.price_log.proofs.Histories.{earlier_stays}
use Rattle.auction_book.specs.Book.{BookData, prices_of}
use Rattle.auction_book.specs.Follows.{Follows, GoesOn}
use Rattle.auction_book.specs.Free.{IsFree}
use Rattle.auction_book.proofs.Following.{follows_through, goes_on_itself, goes_on_through}
use Rattle.auction_book.proofs.WorkerSteps.{IsOwn}
use Rattle.async_workers.specs.PlaceRule.{Extends, ExtendsBy}

pub extends_on : (a b : BookData) → GoesOn a b → Extends a b
extends_on a b on = record { base = on.base; workers = on.workers; below = on.below; log = on.log; refuted = λ h. absurd (true≢false (sym h)) }

pub extends_itself : (b : BookData) → Extends b b
extends_itself b = extends_on b b (goes_on_itself b)

pub extends_through : (a b c : BookData) → Extends a b → Extends b c → Extends a c
extends_through a b c f g =
    let a' : BookData = record a { refuted = None } in
    let b' : BookData = record b { refuted = None } in
    goes_on_through a' b' c (record { base = f.base; workers = f.workers; below = f.below; log = f.log; refuted = λ h. absurd (true≢false (sym h)) }) g

pub extends_by : (a b : BookData) (worker : ℕ) → Follows worker a b → ExtendsBy worker a b
extends_by a b worker f = record { goes_on = extends_on a b f.goes_on; counts = f.counts; claims = f.claims; asked = f.asked }

pub extends_by_through : (a b c : BookData) (worker : ℕ) → ExtendsBy worker a b → Follows worker b c → ExtendsBy worker a c
extends_by_through a b c worker f g = follows_through (let a' : BookData = record a { refuted = None } in a') b c worker f g

-- a worker's table and its version stay its own
pub own_extended : (b new : BookData) (table : List ℤ) (version : ℕ) → IsFree b → Extends b new →
    IsBelow table (prices_of b) → IsEarlier b.log table version → IsOwn new table version
own_extended b new table version free on below earlier = record {
  long = below_through table (prices_of b) (prices_of new) below on.below;
  earlier = earlier_stays b.log new.log table version free.log_ascends on.log on.below earlier;
}
