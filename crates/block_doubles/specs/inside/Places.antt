-- Pairs of a row by their places.
use Rattle.std.specs.Prelude.{◌≡◌, ◌↔◌, ◌⊎◌, ℕ, ℤ, ◌-◌, ◌<◌, ◌≤◌, ◌≤ℤ◌, ◌<ℤ◌, List, length, false, IsTrue}
use lib.Ieee.{Float}
use Rattle.assign_core.specs.declared.sense.Sense.{Sense}
use Rattle.assign_core.specs.Numbered.{IsNumber}
use Rattle.double_costs.specs.Units.{is_number}
use Rattle.double_checker.specs.inside.Pairs.{at, paid, row_part}
use Rattle.block_doubles.specs.declared.least.Best.{Best}

-- no finite cost among the first k with its price is below a sum
abbrev pub NoneBelow : Sense → ℤ → List Float → List Float → ℕ → Type 0
NoneBelow sense v row prices k = (h : ℕ) → h < k → IsTrue (is_number (at row h)) → v ≤ℤ paid sense (at row h) (at prices h)

-- object j, at a finite cost, has the least sum among the first k
pub record IsFound (sense : Sense) (row prices : List Float) (k j : ℕ) (c p : Float) : Type 0 where
  pub first : 0 < j
  pub within : j ≤ k
  pub cost : at row (j - 1) ≡ c
  pub price : at prices (j - 1) ≡ p
  pub finite : IsTrue (is_number c)
  pub price_finite : IsTrue (is_number p)
  pub least : NoneBelow sense (paid sense c p) row prices k

-- no cost among the first k is finite
abbrev pub NoneFinite : List Float → ℕ → Type 0
NoneFinite row k = (h : ℕ) → h < k → is_number (at row h) ≡ false

-- the best of the first k
abbrev pub IsBestOf : Sense → List Float → List Float → ℕ → Best → Type 0
IsBestOf sense row prices k best =
    ((best.object ≡ 0) × NoneFinite row k) ⊎ IsFound sense row prices k best.object best.cost best.price

-- the best of two: a pair that is there, and one more
abbrev pub IsLesser : Sense → Best → ℕ → Float → Float → Best → Type 0
IsLesser sense best object cost price result =
    ((result ≡ best) × (is_number cost ≡ false))
    ⊎ ((result ≡ best) × (0 < best.object) × (paid sense best.cost best.price ≤ℤ paid sense cost price))
    ⊎ ((result ≡ record { object = object; cost = cost; price = price }) × IsTrue (is_number cost)
    × (0 < best.object → paid sense cost price ≤ℤ paid sense best.cost best.price))

-- object j stands in a row, at a finite cost
pub record IsHere (row prices : List Float) (j : ℕ) (c p : Float) : Type 0 where
  pub first : 0 < j
  pub within : j ≤ length row
  pub cost : at row (j - 1) ≡ c
  pub price : at prices (j - 1) ≡ p
  pub finite : IsTrue (is_number c)
  pub price_finite : IsTrue (is_number p)

-- a pair of the row, or none
abbrev pub IsGuess : List Float → List Float → Best → Type 0
IsGuess row prices guess = (guess.object ≡ 0) ⊎ IsHere row prices guess.object guess.cost guess.price

-- there is a guess, and a pair that isn't forbidden is above it
abbrev pub IsAboveGuess : Sense → Best → Float → Float → Type 0
IsAboveGuess sense guess cost price =
    (0 < guess.object) × (IsTrue (is_number cost) → paid sense guess.cost guess.price <ℤ paid sense cost price)

-- the best of the guess and two: a pair that is there, and one more
abbrev pub IsStep : Sense → Best → Best → ℕ → Float → Float → Best → Type 0
IsStep sense guess best object cost price result =
    ((result ≡ best) × IsAboveGuess sense guess cost price) ⊎ IsLesser sense best object cost price result

-- a pair of the row, no worse than the guess and the first k
pub record IsFoundFrom (sense : Sense) (guess : Best) (row prices : List Float) (k : ℕ) (best : Best) : Type 0 where
  pub here : IsHere row prices best.object best.cost best.price
  pub least : NoneBelow sense (paid sense best.cost best.price) row prices k
  pub up_to : 0 < guess.object → paid sense best.cost best.price ≤ℤ paid sense guess.cost guess.price

-- the best of the guess and the first k
abbrev pub IsBestFrom : Sense → Best → List Float → List Float → ℕ → Best → Type 0
IsBestFrom sense guess row prices k best =
    ((best.object ≡ 0) × (guess.object ≡ 0) × NoneFinite row k) ⊎ IsFoundFrom sense guess row prices k best

-- the same of a whole row, without the price
abbrev pub IsLeastAt : Sense → List Float → List Float → ℕ → Float → Type 0
IsLeastAt sense row prices j c =
    ((j ≡ 0) × NoneFinite row (length row)) ⊎ IsFound sense row prices (length row) j c (at prices (j - 1))

-- object k + 1 has a finite cost, whose sum with its price is below a number
abbrev pub IsUnderAt : Sense → ℤ → List Float → List Float → ℕ → Type 0
IsUnderAt sense v row prices k = IsTrue (is_number (at row k)) × (paid sense (at row k) (at prices k) <ℤ v)

-- object j is the first of this kind
pub record IsFirstUnder (sense : Sense) (v : ℤ) (row prices : List Float) (j : ℕ) : Type 0 where
  pub number : IsNumber (length row) j
  pub here : IsUnderAt sense v row prices (j - 1)
  pub none_below : NoneBelow sense v row prices (j - 1)

-- an own object stands in a row at a finite cost, whose sum with its price is the number
pub record IsOwnAt (sense : Sense) (v : ℤ) (row prices : List Float) (j : ℕ) : Type 0 where
  pub number : IsNumber (length row) j
  pub finite : IsTrue (is_number (at row (j - 1)))
  pub same : paid sense (at row (j - 1)) (at prices (j - 1)) ≡ v

-- a mark that says so
pub record IsMarkAt (sense : Sense) (v : ℤ) (row prices : List Float) (j mark : ℕ) : Type 0 where
  pub zero_or_one : (mark ≡ 0) ⊎ (mark ≡ 1)
  pub one : (mark ≡ 1) ↔ IsOwnAt sense v row prices j

-- the persons' numbers by place
abbrev pub number_at : Sense → List Float → List Float → ℕ → ℤ
number_at sense costs prices i = paid sense (at costs i) (at prices i)

-- no pair of the rows of the first k persons is below their number
abbrev pub AreAbove : Sense → List Float → List Float → List Float → List Float → ℕ → Type 0
AreAbove sense costs prices of_costs of_prices k =
    (i : ℕ) → i < k → NoneBelow sense (number_at sense of_costs of_prices i) (row_part (length prices) i costs) prices (length prices)

-- person i and object j are the first pair that is
pub record IsFirstBetter (sense : Sense) (costs prices of_costs of_prices : List Float) (n i j : ℕ) : Type 0 where
  pub person : IsNumber n i
  pub before : AreAbove sense costs prices of_costs of_prices (i - 1)
  pub object : IsFirstUnder sense (number_at sense of_costs of_prices (i - 1)) (row_part (length prices) (i - 1) costs) prices j
