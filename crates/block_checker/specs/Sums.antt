-- What a block shows of its persons: their least sums, and whether it lists their own objects.
use Rattle.std.specs.Prelude.{◌≡◌, ◌↔◌, ◌⊎◌, ℕ, ℤ, pos, ◌≤ℤ◌, List, Some, length}
use Rattle.assign_core.specs.declared.sense.Sense.{Sense}
use Rattle.assign_core.specs.Numbered.{IsNumber, numbered}
use Rattle.assign_core.specs.Rows.{Listing, listed_in, row_of}
use Rattle.cost_lists.specs.declared.numbers.TheConstants.{UNLISTED}
use Rattle.cost_lists.specs.Blocks.{reduced_sum}
use Rattle.cost_lists.specs.ListedCosts.{ListedCosts}

-- person i lists object j at a cost whose sum with the price is v
abbrev pub IsSumOf : Sense → List Listing → List ℤ → ℕ → ℤ → Type 0
IsSumOf sense rows prices i v = (j : ℕ) × (c : ℤ) × (listed_in (row_of rows i) j ≡ Some c) × (v ≡ reduced_sum sense prices j c)

-- the least of the sums of what person i lists, or the mark if it lists nothing
pub record IsLeastSum (sense : Sense) (rows : List Listing) (prices : List ℤ) (i : ℕ) (v : ℤ) : Type 0 where
  pub none_below : (j : ℕ) (c : ℤ) → listed_in (row_of rows i) j ≡ Some c → v ≤ℤ reduced_sum sense prices j c
  pub reached : (v ≡ UNLISTED) ⊎ IsSumOf sense rows prices i v

-- for each person its least sum
pub record AreLeastSums (sense : Sense) (rows : List Listing) (prices least : List ℤ) : Type 0 where
  pub long : length least ≡ length rows
  pub each : (i : ℕ) → IsNumber (length rows) i → IsLeastSum sense rows prices i (numbered least i (pos 0))

-- person i lists its own object, at a sum that is its number
abbrev pub IsShown : ListedCosts → List ℕ → List ℤ → List ℤ → ℕ → Type 0
IsShown l xs prices numbers i =
    (c : ℤ) × (listed_in (row_of l.rows i) (numbered xs i 0) ≡ Some c)
    × (reduced_sum l.sense prices (numbered xs i 0) c ≡ numbered numbers i (pos 0))

-- for each person 1 if that is so, and 0 if not
pub record AreMarks (l : ListedCosts) (xs : List ℕ) (prices numbers : List ℤ) (marks : List ℕ) : Type 0 where
  pub long : length marks ≡ length l.rows
  pub zero_or_one : (i : ℕ) → IsNumber (length l.rows) i → (numbered marks i 0 ≡ 0) ⊎ (numbered marks i 0 ≡ 1)
  pub each : (i : ℕ) → IsNumber (length l.rows) i → (numbered marks i 0 ≡ 1) ↔ IsShown l xs prices numbers i
