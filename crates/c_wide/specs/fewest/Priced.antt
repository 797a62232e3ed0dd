-- A dense problem at combined costs, with prices there.
use Rattle.std.specs.Prelude.{◌≡◌, ℕ, ℤ, pos, ◌+◌, ◌-◌, ◌*◌, ◌<◌, ◌+ℤ◌, ◌-ℤ◌, ◌*ℤ◌, ◌≤ℤ◌, List, length, All, slice_index_or}
use Rattle.assign_core.specs.Rows.{IsCost}
use Rattle.cost_lists.specs.ListedCosts.{IsCount}
use Rattle.cost_lists.specs.Own.{minimised}
use Rattle.wide_checker.specs.WideNumbers.{IsInPrices}
use Rattle.c_wide.specs.declared.fewest.priced.Priced.{Priced}
use Rattle.c_wide.specs.declared.fewest.tight.Tight.{Tight}
use Rattle.c_wide.specs.fewest.Changes.{change, with_change}

-- n * m costs in range, n kept objects and m prices in range
pub record IsPriced (g : Priced) : Type 0 where
  pub persons : IsCount g.n
  pub objects : IsCount g.m
  pub long : length g.costs.now ≡ g.n * g.m
  pub costs : All IsCost g.costs.now
  pub kept : length g.kept.now ≡ g.n
  pub priced : length g.prices.now ≡ g.m
  pub prices : All IsInPrices g.prices.now

-- a combined cost, turned so that less is better, with its price, by places from 0
abbrev pub level_at : Priced → ℕ → ℕ → ℤ
level_at g i j =
    minimised g.sense (with_change g.sense g.n (slice_index_or g.costs.now (i * g.m + j) (pos 0)) (change (slice_index_or g.kept.now i 0) (j + 1)))
    +ℤ slice_index_or g.prices.now j (pos 0)

-- those of the own pairs of the first k persons
pub record AreLevels (g : Priced) (xs : List ℕ) (k : ℕ) (levels : List ℤ) : Type 0 where
  pub long : length levels ≡ k
  pub each : (i : ℕ) → i < k → slice_index_or levels i (pos 0) ≡ level_at g i (slice_index_or xs i 0 - 1)

-- the first k levels are so far below n + 1 times what is above the values
abbrev pub AreBelow : ℕ → ℕ → List ℤ → ℕ → List ℤ → Type 0
AreBelow n by values k levels =
    (i : ℕ) → i < k → slice_index_or levels i (pos 0) ≤ℤ ((pos (n + 1) *ℤ (slice_index_or values i (pos 0) +ℤ pos 1)) -ℤ pos by)

-- the first k prices are at most so far below n + 1 times the first ones
abbrev pub AreNear : ℕ → ℕ → List ℤ → ℕ → List ℤ → Type 0
AreNear n by first k prices =
    (j : ℕ) → j < k → ((pos (n + 1) *ℤ slice_index_or first j (pos 0)) -ℤ pos by) ≤ℤ slice_index_or prices j (pos 0)

-- the sum of a pair is at least its person's level
abbrev pub HasLevel : Priced → List ℤ → Tight → Type 0
HasLevel g levels t = slice_index_or levels t.person (pos 0) ≤ℤ level_at g t.person t.object
