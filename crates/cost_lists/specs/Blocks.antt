-- A problem whose pairs lie in blocks, as in files of which no machine holds all.
use Rattle.std.specs.Prelude.{◌≡◌, ℕ, ℤ, pos, ◌+ℤ◌, ◌-ℤ◌, ◌≤ℤ◌, ◌<◌, List, Some, length, fold, map, nat_eq, All, Contains}
use Rattle.std.specs.List.{IsDistinct}
use Rattle.std.specs.List.Sorted.{IsStrictlyIncreasing}
use Rattle.assign_core.specs.declared.sense.Sense.{Sense}
use Rattle.assign_core.specs.Numbered.{IsNumber, numbered}
use Rattle.assign_core.specs.Rows.{Listing, IsWithin, listed_in, row_of}
use Rattle.assign_core.specs.Assignment.{IsAssignment, IsBest, IsNoWorse, total}
use Rattle.assign_core.specs.Prices.{price_of}
use Rattle.cost_lists.specs.Exact.{AreFree}
use Rattle.cost_lists.specs.Own.{minimised}

-- some persons of the problem, and what each of them lists here
pub record Block : Type 0 where
  pub persons : List ℕ
  pub rows : List Listing

-- the block lists object j for person i at cost c
pub record HasPair (block : Block) (i j : ℕ) (c : ℤ) : Type 0 where
  pub place : ℕ
  pub within : IsNumber (length block.rows) place
  pub person : numbered block.persons place 0 ≡ i
  pub listed : listed_in (row_of block.rows place) j ≡ Some c

-- some block lists it
abbrev pub SomeHas : List Block → ℕ → ℕ → ℤ → Type 0
SomeHas blocks i j c = (block : Block) × Contains blocks block × HasPair block i j c

-- the blocks have just the listed pairs: each at its cost, and none of them at a better one
pub record AreBlocks (sense : Sense) (rows : List Listing) (blocks : List Block) : Type 0 where
  pub each : (i j : ℕ) (c : ℤ) → listed_in (row_of rows i) j ≡ Some c → SomeHas blocks i j c
  pub no_better : (i j : ℕ) (c : ℤ) → SomeHas blocks i j c → (d : ℤ) × (listed_in (row_of rows i) j ≡ Some d) × IsNoWorse sense d c

-- the sum of a turned cost and its object's price
abbrev pub reduced_sum : Sense → List ℤ → ℕ → ℤ → ℤ
reduced_sum sense prices j cost = minimised sense cost +ℤ price_of prices j

-- no sum of a listed pair is below its person's number
abbrev pub IsBounded : Sense → List Listing → List ℤ → List ℤ → Type 0
IsBounded sense rows prices numbers =
    (i j : ℕ) (c : ℤ) → listed_in (row_of rows i) j ≡ Some c → numbered numbers i (pos 0) ≤ℤ reduced_sum sense prices j c

-- the row numbers of a block's persons
abbrev pub numbers_of : List ℤ → Block → List ℤ
numbers_of numbers block = map (λ i. numbered numbers i (pos 0)) block.persons

-- each block's pairs are bounded by the row numbers of its persons
pub record AreBounded (sense : Sense) (blocks : List Block) (prices numbers : List ℤ) : Type 0 where
  pub long : All (λ block. length block.persons ≡ length block.rows) blocks
  pub bounded : All (λ block. IsBounded sense block.rows prices (numbers_of numbers block)) blocks

-- each of n persons has an object that some block lists for it, at a sum equal to its row number
abbrev pub AreShown : Sense → ℕ → List Block → List ℕ → List ℤ → List ℤ → Type 0
AreShown sense n blocks xs prices numbers =
    (i : ℕ) → IsNumber n i →
    (c : ℤ) × SomeHas blocks i (numbered xs i 0) c × (reduced_sum sense prices (numbered xs i 0) c ≡ numbered numbers i (pos 0))

-- what blocks prove best, with what no block sees: the persons' objects differ, no price is below 0, and
-- each is 0 where nobody owns the object
pub record AreProved (sense : Sense) (m : ℕ) (rows : List Listing) (blocks : List Block) (xs : List ℕ) (prices numbers : List ℤ) : Type 0 where
  pub within : All (IsWithin m) rows
  pub covered : AreBlocks sense rows blocks
  pub bounded : AreBounded sense blocks prices numbers
  pub long : length xs ≡ length rows
  pub shown : AreShown sense (length rows) blocks xs prices numbers
  pub apart : IsDistinct nat_eq xs
  pub no_less : (j : ℕ) → pos 0 ≤ℤ price_of prices j
  pub free : AreFree m prices xs

-- what blocks prove best is best of all
abbrev pub BlocksMeanBest : Type 0
BlocksMeanBest = (sense : Sense) (m : ℕ) (rows : List Listing) (blocks : List Block) (xs : List ℕ) (prices numbers : List ℤ) →
    AreProved sense m rows blocks xs prices numbers → IsBest sense rows xs

-- the sum of the row numbers less that of the prices is at most the turned cost of each assignment
abbrev pub BlocksBound : Type 0
BlocksBound = (sense : Sense) (rows : List Listing) (blocks : List Block) (xs : List ℕ) (prices numbers : List ℤ) →
    All (IsWithin (length prices)) rows → AreBlocks sense rows blocks → AreBounded sense blocks prices numbers →
    length numbers ≡ length rows → ((j : ℕ) → pos 0 ≤ℤ price_of prices j) → IsAssignment rows xs →
    (fold ◌+ℤ◌ (pos 0) numbers -ℤ fold ◌+ℤ◌ (pos 0) prices) ≤ℤ minimised sense (total rows xs)

-- where the blocks list only some objects for some persons, and these are fewer, there is no assignment
abbrev pub BlocksForbid : Type 0
BlocksForbid = (sense : Sense) (rows : List Listing) (blocks : List Block) (persons objects xs : List ℕ) →
    AreBlocks sense rows blocks → IsStrictlyIncreasing persons → All (IsNumber (length rows)) persons →
    ((i j : ℕ) (c : ℤ) → Contains persons i → SomeHas blocks i j c → Contains objects j) →
    length objects < length persons → ¬ IsAssignment rows xs
