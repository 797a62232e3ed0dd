-- Plans and prices over all rows of costs.
use Rattle.std.specs.Prelude.{◌≡◌, ℕ, ℤ, pos, ◌+ℤ◌, ◌≤ℤ◌, ◌<ℤ◌, ◌+◌, ◌-◌, ◌*◌, ◌<◌, ◌⊎◌, List, length, Bool, true}
use Rattle.std.specs.Prelude.{IsTrue, Contains, slice_index_or}
use lib.Ieee.{Float, nan}
use Rattle.assign_core.specs.declared.sense.Sense.{Sense}
use Rattle.assign_core.specs.Numbered.{IsNumber, IsMarked, numbered}
use Rattle.double_costs.specs.Units.{is_number, units_of}
use Rattle.double_checker.specs.inside.Pairs.{AreAbove, AreAtLeast, HasOpen, at, paid, row_part}

-- the place, from 0, of the own object of the person at a place
abbrev pub own_place : List ℕ → ℕ → ℕ
own_place xs i = slice_index_or xs i 0 - 1

-- the person at a place has one of m objects, at a finite cost
pub record IsOwn (m : ℕ) (costs : List Float) (xs : List ℕ) (i : ℕ) : Type 0 where
  pub number : IsNumber m (slice_index_or xs i 0)
  pub finite : IsTrue (is_number (at costs (i * m + own_place xs i)))

-- each person has one of m objects, at a finite cost
abbrev pub AreOwn : ℕ → List Float → List ℕ → Type 0
AreOwn m costs xs = (i : ℕ) → i < length xs → IsOwn m costs xs i

-- person i is the first that doesn't
pub record IsFirstNotOwn (m : ℕ) (costs : List Float) (xs : List ℕ) (i : ℕ) : Type 0 where
  pub number : IsNumber (length xs) i
  pub here : ¬ IsOwn m costs xs (i - 1)
  pub before : (k : ℕ) → k < i - 1 → IsOwn m costs xs k

-- each cost of a row is at least the own one with its price, and by the margin if that is said
pub record IsRowSeen (sense : Sense) (margin : ℤ) (row prices : List Float) (own : ℕ) (by_margin : Bool) : Type 0 where
  pub least : AreAtLeast sense (paid sense (at row own) (at prices own)) row prices (length row)
  pub above : by_margin ≡ true →
      AreAbove sense (paid sense (at row own) (at prices own) +ℤ margin) row prices own (length row)

-- the rows of the first k persons are
abbrev pub AreRowsSeen : Sense → ℤ → ℕ → List Float → List ℕ → List Float → Bool → ℕ → Type 0
AreRowsSeen sense margin m costs xs prices by_margin k =
    (i : ℕ) → i < k → IsRowSeen sense margin (row_part m i costs) prices (own_place xs i) by_margin

-- some row has an open cost
abbrev pub HasOpenRow : Sense → ℕ → List Float → List ℕ → List Float → Type 0
HasOpenRow sense m costs xs prices =
    (i : ℕ) × (i < length xs) × HasOpen sense (row_part m i costs) prices (own_place xs i)

-- a base that the own cost with its price is below, and a margin that isn't negative
pub record IsBase (own_cost own_price base margin : Float) : Type 0 where
  pub base_finite : IsTrue (is_number base)
  pub margin_finite : IsTrue (is_number margin)
  pub below : (units_of own_cost +ℤ units_of own_price) <ℤ units_of base
  pub no_less : pos 0 ≤ℤ units_of margin

-- the least of some prices, if there are any
pub record IsLeastPrice (prices : List Float) (least : Float) : Type 0 where
  pub finite : IsTrue (is_number least)
  pub each : (k : ℕ) → k < length prices → units_of least ≤ℤ units_of (at prices k)
  pub one : 0 < length prices → (k : ℕ) × (k < length prices) × (units_of (at prices k) ≡ units_of least)

-- just the given objects are marked
abbrev pub MarksJust : List Bool → List ℕ → Type 0
MarksJust owned xs = (j : ℕ) → (IsMarked owned j → Contains xs j) × (Contains xs j → IsMarked owned j)

-- each unmarked object's price is at most that of each
abbrev pub AreLeastUnmarked : List Bool → List Float → Type 0
AreLeastUnmarked owned prices =
    (j k : ℕ) → IsNumber (length prices) j → IsNumber (length prices) k →
    IsMarked owned j ⊎ (units_of (numbered prices j nan) ≤ℤ units_of (numbered prices k nan))
