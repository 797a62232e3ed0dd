-- Row numbers and prices that ask blocks for the pairs outside of a Hall set.
use Rattle.std.specs.Prelude.{◌≡◌, ◌⊎◌, ℕ, ℤ, pos, neg_ℤ, ◌+ℤ◌, ◌≤ℤ◌, List, length, Contains}
use Rattle.assign_core.specs.declared.numbers.TheConstants.{GREATEST_COST}
use Rattle.assign_core.specs.Numbered.{IsNumber, numbered}
use Rattle.assign_core.specs.Prices.{price_of}
use Rattle.dual_checker.specs.HallVerdicts.{HasNeighbours}
use Rattle.cost_lists.specs.Blocks.{IsBounded}
use Rattle.cost_lists.specs.ListedCosts.{ListedCosts, AreInLimits}
use Rattle.exact_checker.specs.Under.{IsUnder}

-- these ones of n persons have numbers above all costs, and the others ones below all; these objects have
-- prices that lift each cost to those numbers, and the others are free
pub record AskOutside (n : ℕ) (persons objects : List ℕ) (prices numbers : List ℤ) : Type 0 where
  pub named : (i : ℕ) → Contains persons i → IsNumber n i × (numbered numbers i (pos 0) ≡ GREATEST_COST +ℤ pos 1)
  pub others : (i : ℕ) → IsNumber n i → Contains persons i ⊎ (numbered numbers i (pos 0) ≤ℤ neg_ℤ GREATEST_COST)
  pub inside : (j : ℕ) → Contains objects j → (GREATEST_COST +ℤ (GREATEST_COST +ℤ pos 1)) ≤ℤ price_of prices j
  pub outside : (j : ℕ) → Contains objects j ⊎ (price_of prices j ≡ pos 0)

-- where no pair is below its person's number, these persons list only these objects
abbrev pub BoundedMeansClosed : Type 0
BoundedMeansClosed = (l : ListedCosts) (persons objects : List ℕ) (prices numbers : List ℤ) → AreInLimits l →
    AskOutside (length l.rows) persons objects prices numbers → IsBounded l.sense l.rows prices numbers →
    HasNeighbours l.rows persons (Contains objects)

-- each pair that is below it is one of these persons with one of the other objects
abbrev pub UnderMeansOutside : Type 0
UnderMeansOutside = (l : ListedCosts) (persons objects : List ℕ) (prices numbers : List ℤ) → AreInLimits l →
    AskOutside (length l.rows) persons objects prices numbers → (i j : ℕ) → IsNumber (length l.rows) i →
    IsUnder l.sense l.rows prices numbers i j → Contains persons i × ¬ Contains objects j
