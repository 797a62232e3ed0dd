-- Least sums of what was read so far.
use Rattle.std.specs.Prelude.{◌≡◌, ◌⊎◌, ℕ, ℤ, pos, ◌+ℤ◌, ◌-◌, ◌≤ℤ◌, ◌<◌, List, length, slice_index_or}
use Rattle.assign_core.specs.declared.sense.Sense.{Sense}
use Rattle.cost_lists.specs.declared.numbers.TheConstants.{UNLISTED}
use Rattle.cost_lists.specs.declared.source.Pairs.{Pairs}
use Rattle.cost_lists.specs.Own.{minimised}
use Rattle.exact_checker.specs.inside.Sums.{sum_at}

-- v is the least of the first k sums of a row, or the mark
pub record IsLeastOfRow (sense : Sense) (costs prices : List ℤ) (k : ℕ) (v : ℤ) : Type 0 where
  pub none_below : (j : ℕ) → j < k → v ≤ℤ sum_at sense costs prices j
  pub reached : (v ≡ UNLISTED) ⊎ ((j : ℕ) × (j < k) × (v ≡ sum_at sense costs prices j))

-- the sum of the pair at a place
abbrev pub sum_of_pair : Sense → Pairs → List ℤ → ℕ → ℤ
sum_of_pair sense pairs prices q =
    minimised sense (slice_index_or pairs.costs.now q (pos 0)) +ℤ slice_index_or prices (slice_index_or pairs.objects.now q 0 - 1) (pos 0)

-- the pair at a place is of the person at a place
abbrev pub IsPairOf : Pairs → ℕ → ℕ → Type 0
IsPairOf pairs i q = slice_index_or pairs.persons.now q 0 - 1 ≡ i

-- for each person, by its place, the least sum of its pairs among the first k, or the mark
pub record IsLeastOf (sense : Sense) (pairs : Pairs) (prices : List ℤ) (k i : ℕ) (v : ℤ) : Type 0 where
  pub none_below : (q : ℕ) → q < k → IsPairOf pairs i q → v ≤ℤ sum_of_pair sense pairs prices q
  pub reached : (v ≡ UNLISTED) ⊎ ((q : ℕ) × (q < k) × IsPairOf pairs i q × (v ≡ sum_of_pair sense pairs prices q))

abbrev pub AreLeastOf : Sense → Pairs → List ℤ → ℕ → List ℤ → Type 0
AreLeastOf sense pairs prices k least = (i : ℕ) → i < length least → IsLeastOf sense pairs prices k i (slice_index_or least i (pos 0))
