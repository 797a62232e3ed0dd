-- A table of prices and its raises.
use Rattle.std.specs.Prelude.{◌≡◌, ℕ, ℤ, pos, ◌+◌, ◌-◌, ◌<◌, ◌≤◌, ◌+ℤ◌, ◌≤ℤ◌, ◌<ℤ◌, List, [], ◌∷◌, length, take}
use Rattle.assign_core.specs.Numbered.{IsNumber, renumbered}
use Rattle.assign_core.specs.Prices.{IsBelow, IsPrice, IsTable, price_of}
use Rattle.price_log.specs.declared.log.TheConstants.{MOST_KEPT}
use Rattle.price_log.specs.declared.raise.Raise.{Raise}

-- the table of the first version that is kept, and the raises after it
pub record History : Type 0 where
  pub first_kept : ℕ
  pub base : List ℤ
  pub raises : List Raise

-- a table after some raises, in order
abbrev pub raised : List ℤ → List Raise → List ℤ
raised table [] = table
raised table (r ∷ raises) = raised (renumbered table r.object r.level) raises

-- the number of raises since the start
abbrev pub last_version : History → ℕ
last_version log = log.first_kept + length log.raises

-- the table of a version, for versions from the first kept on
abbrev pub table_at : History → ℕ → List ℤ
table_at log version = raised log.base (take (version - log.first_kept) log.raises)

-- the table of the last version
abbrev pub today : History → List ℤ
today log = raised log.base log.raises

-- a raise to a price that is above the one before
pub record IsRaise (table : List ℤ) (r : Raise) : Type 0 where
  pub object : IsNumber (length table) r.object
  pub above : price_of table r.object <ℤ r.level
  pub price : IsPrice r.level

-- each raise goes above the price before it, one after the other
abbrev pub Rises : List ℤ → List Raise → Type 0
Rises table [] = Unit {0}
Rises table (r ∷ raises) = IsRaise table r × Rises (renumbered table r.object r.level) raises

-- the sum of some prices
abbrev pub sum_of : List ℤ → ℤ
sum_of [] = pos 0
sum_of (p ∷ prices) = p +ℤ sum_of prices

-- raises that go up from a table of prices, the sum of which is at least the number of earlier
-- raises; at most as many raises as a log keeps
pub record IsHistory (log : History) : Type 0 where
  pub base : IsTable log.base
  pub rises : Rises log.base log.raises
  pub early : pos log.first_kept ≤ℤ sum_of log.base
  pub short : length log.raises ≤ MOST_KEPT

-- a log before its first raise
abbrev pub started : List ℤ → History
started prices = record { first_kept = 0; base = prices; raises = [] }

-- a later log: its version and its first kept version are no lower, and it has each table that both
-- logs reach
pub record Continues (old new : History) : Type 0 where
  pub kept : old.first_kept ≤ new.first_kept
  pub later : last_version old ≤ last_version new
  pub same : (v : ℕ) → new.first_kept ≤ v → v ≤ last_version old → table_at new v ≡ table_at old v

-- a table that is the log's at this version, or is below the current one if the log no longer
-- reaches this version
pub record IsEarlier (log : History) (table : List ℤ) (version : ℕ) : Type 0 where
  pub reached : version ≤ last_version log
  pub same : log.first_kept ≤ version → table ≡ table_at log version
  pub below : version < log.first_kept → IsBelow table (today log)
