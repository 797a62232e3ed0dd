-- What the persons list.
use Rattle.std.specs.Prelude.{ℕ, ℤ, pos, neg_ℤ, ◌≤ℤ◌, ◌<◌, ◌≤◌, List, [], ◌∷◌, Option, None, Some, ◌==◌}
use Rattle.std.specs.Prelude.{if◌then◌else◌, IsSome, unwrap_or, length, All, slice_index_or}
use Rattle.assign_core.specs.declared.numbers.TheConstants.{MOST_PERSONS, GREATEST_COST}
use Rattle.assign_core.specs.Numbered.{IsNumber, numbered}

-- a person's row: the objects that the person lists, each with its cost (or its benefit)
abbrev pub Listing : Type 0
Listing = List (ℕ × ℤ)

-- the cost of an object in a row, if the row lists the object
abbrev pub listed_in : Listing → ℕ → Option ℤ
listed_in [] j = None
listed_in (e ∷ row) j = if e.0 == j then Some e.1 else listed_in row j

-- the same, or 0 if the object isn't listed
abbrev pub listed_or_zero : Listing → ℕ → ℤ
listed_or_zero row j = unwrap_or (listed_in row j) (pos 0)

-- the row of person i
abbrev pub row_of : List Listing → ℕ → Listing
row_of rows i = numbered rows i []

-- person i lists object j
abbrev pub IsListed : List Listing → ℕ → ℕ → Type 0
IsListed rows i j = IsSome (listed_in (row_of rows i) j)

-- each object is above those before it
abbrev pub IsRising : Listing → Type 0
IsRising row =
    (i k : ℕ) (d : ℕ × ℤ) → i < k → k < length row →
    (slice_index_or row i d).0 < (slice_index_or row k d).0

-- the objects are numbered from 1 to n
abbrev pub IsWithin : ℕ → Listing → Type 0
IsWithin n row = All (λ e. IsNumber n e.0) row

-- its absolute value is at most the greatest cost
pub record IsCost (c : ℤ) : Type 0 where
  pub least : neg_ℤ GREATEST_COST ≤ℤ c
  pub greatest : c ≤ℤ GREATEST_COST

-- each cost of a row is at most the greatest cost in absolute value
abbrev pub HasCosts : Listing → Type 0
HasCosts row = All (λ e. IsCost e.1) row

-- a row of a problem with n objects
pub record IsRow (n : ℕ) (row : Listing) : Type 0 where
  pub rising : IsRising row
  pub within : IsWithin n row
  pub costs : HasCosts row

-- a number of persons, and of objects, that a problem may have
pub record IsSize (n : ℕ) : Type 0 where
  pub some : 0 < n
  pub few : n ≤ MOST_PERSONS

-- a row for each person, among as many objects as persons
pub record IsProblem (rows : List Listing) : Type 0 where
  pub size : IsSize (length rows)
  pub each : All (IsRow (length rows)) rows
