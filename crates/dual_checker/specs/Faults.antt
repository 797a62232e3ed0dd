-- The faults of two lists, one of objects and one of prices.
use Rattle.std.specs.Prelude.{◌≡◌, ℕ, ℤ, pos, ◌+ℤ◌, ◌<ℤ◌, ◌<◌, ◌==◌, List, length, map, IsSome, count_by}
use Rattle.assign_core.specs.Numbered.{IsNumber, numbered}
use Rattle.assign_core.specs.Rows.{Listing, IsListed, listed_in, listed_or_zero, row_of}
use Rattle.assign_core.specs.Benefits.{benefit_row}
use Rattle.assign_core.specs.Prices.{price_of, IsPrice}
use Rattle.assign_core.specs.declared.sense.Sense.{Sense}

-- k is the lowest number from 1 to n that has the fault
pub record IsFirst (Fault : ℕ → Type 0) (n k : ℕ) : Type 0 where
  pub number : IsNumber n k
  pub here : Fault k
  pub none_below : (i : ℕ) → 0 < i → i < k → ¬ Fault i

-- an object for each person, and a price for each of m objects
pub record AreLong (m : ℕ) (rows : List Listing) (xs : List ℕ) (prices : List ℤ) : Type 0 where
  pub objects : length xs ≡ length rows
  pub prices_too : length prices ≡ m

-- the object of person i
abbrev pub own_object : List ℕ → ℕ → ℕ
own_object xs i = numbered xs i 0

-- person i doesn't list its object
abbrev pub IsUnlisted : List Listing → List ℕ → ℕ → Type 0
IsUnlisted rows xs i = ¬ IsListed rows i (own_object xs i)

-- object j is given twice, or more often
abbrev pub IsGivenTwice : List ℕ → ℕ → Type 0
IsGivenTwice xs j = 1 < count_by (λ x. x == j) xs

-- the price of object j isn't in the range of prices
abbrev pub IsOutOfRange : List ℤ → ℕ → Type 0
IsOutOfRange prices j = ¬ IsPrice (price_of prices j)

-- with these benefits, object k is listed and has a value over eps above that of object j: a_k -
-- p_k > a_j - p_j + eps
pub record BreaksSlack (eps : ℤ) (prices : List ℤ) (row : Listing) (j k : ℕ) : Type 0 where
  pub listed : IsSome (listed_in row k)
  pub more : (listed_or_zero row j +ℤ price_of prices k +ℤ eps) <ℤ (listed_or_zero row k +ℤ price_of prices j)

-- among m objects, object k breaks the slackness 1 of person i
abbrev pub BreaksSlackOf : Sense → ℕ → List Listing → List ℕ → List ℤ → ℕ → ℕ → Type 0
BreaksSlackOf sense m rows xs prices i k = BreaksSlack (pos 1) prices (row_of (map (benefit_row sense m) rows) i) (own_object xs i) k

-- some object breaks the slackness 1 of person i
abbrev pub IsShort : Sense → ℕ → List Listing → List ℕ → List ℤ → ℕ → Type 0
IsShort sense m rows xs prices i = (k : ℕ) × BreaksSlackOf sense m rows xs prices i k
