-- Own costs and their sums.
use Rattle.std.specs.Prelude.{◌≡◌, ◌≢◌, ◌⊎◌, ◌↔◌, ℕ, ℤ, pos, ◌+ℤ◌, ◌<◌, List, slice_index_or}
use Rattle.assign_core.specs.Rows.{IsCost}
use Rattle.assign_core.specs.Prices.{price_of}
use Rattle.cost_lists.specs.declared.numbers.TheConstants.{UNLISTED}

-- a turned cost, or the mark
abbrev pub IsOwnCost : ℤ → Type 0
IsOwnCost own = (own ≡ UNLISTED) ⊎ IsCost own

-- a turned cost whose sum with the price is the number
abbrev pub IsOwnSum : ℤ → ℤ → ℤ → Type 0
IsOwnSum own price number = (own ≢ UNLISTED) × (own +ℤ price ≡ number)

-- a mark that says so
pub record IsMarkOf (own price number : ℤ) (mark : ℕ) : Type 0 where
  pub zero_or_one : (mark ≡ 0) ⊎ (mark ≡ 1)
  pub one : (mark ≡ 1) ↔ IsOwnSum own price number

-- the first marks say it of each person, by its place
abbrev pub AreMarksOf : List ℤ → List ℕ → List ℤ → List ℤ → ℕ → List ℕ → Type 0
AreMarksOf own objects numbers prices k marks =
    (i : ℕ) → i < k →
    IsMarkOf (slice_index_or own i (pos 0)) (price_of prices (slice_index_or objects i 0)) (slice_index_or numbers i (pos 0)) (slice_index_or marks i 0)
