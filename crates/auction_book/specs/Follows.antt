-- What workers' changes keep of a book.
use Rattle.std.specs.Prelude.{◌≡◌, ◌≢◌, ℕ, None, IsTrue, length, is_some}
use Rattle.assign_core.specs.Numbered.{numbered}
use Rattle.assign_core.specs.Prices.{IsBelow}
use Rattle.price_log.specs.History.{Continues}
use Rattle.auction_book.specs.Book.{BookData, Holds, prices_of}

-- the later book has the same problem and number of workers, no price is lower, its log continues,
-- and it has a recorded Hall set if the earlier one has
pub record GoesOn (old new : BookData) : Type 0 where
  pub base : new.base ≡ old.base
  pub workers : length new.claims ≡ length old.claims
  pub below : IsBelow (prices_of old) (prices_of new)
  pub log : Continues old.log new.log
  pub refuted : IsTrue (is_some old.refuted) → IsTrue (is_some new.refuted)

-- a change by one worker: the book goes on, other workers' counts and claims stay, and if one of
-- them has a claim, the same is asked of its bid
pub record Follows (worker : ℕ) (old new : BookData) : Type 0 where
  pub goes_on : GoesOn old new
  pub counts : (k : ℕ) → k ≢ worker → numbered new.counts k 0 ≡ numbered old.counts k 0
  pub claims : (k : ℕ) → k ≢ worker → numbered new.claims k None ≡ numbered old.claims k None
  pub asked : (k person : ℕ) → k ≢ worker → Holds old k person → new.ask ≡ old.ask
