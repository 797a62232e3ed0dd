-- Assignments whose worst pair is as good as possible.
use Rattle.std.specs.Prelude.{◌≡◌, ◌<◌, ℕ, ℤ, List, Some, length, All, Contains}
use Rattle.std.specs.List.Sorted.{IsStrictlyIncreasing}
use Rattle.assign_core.specs.declared.sense.Sense.{Sense}
use Rattle.assign_core.specs.Numbered.{IsNumber}
use Rattle.assign_core.specs.Rows.{Listing, listed_in, listed_or_zero, row_of}
use Rattle.assign_core.specs.Assignment.{IsAssignment, IsNoWorse}
use Rattle.dual_checker.specs.Faults.{own_object}
use Rattle.cost_lists.specs.ListedCosts.{ListedCosts}
use Rattle.exact_checker.specs.Faults.{IsBetter}

-- the cost of person i and its own object
abbrev pub own_cost : List Listing → List ℕ → ℕ → ℤ
own_cost rows xs i = listed_or_zero (row_of rows i) (own_object xs i)

-- some person's own pair has this cost, and no person's is worse
pub record IsWorst (sense : Sense) (rows : List Listing) (xs : List ℕ) (b : ℤ) : Type 0 where
  pub person : ℕ
  pub number : IsNumber (length rows) person
  pub is : own_cost rows xs person ≡ b
  pub none_worse : (i : ℕ) → IsNumber (length rows) i → IsNoWorse sense (own_cost rows xs i) b

-- an assignment whose worst pair costs b, and no assignment has a better worst pair
pub record IsBottleneck (sense : Sense) (rows : List Listing) (xs : List ℕ) (b : ℤ) : Type 0 where
  pub assigned : IsAssignment rows xs
  pub worst : IsWorst sense rows xs b
  pub best : (ys : List ℕ) (c : ℤ) → IsAssignment rows ys → IsWorst sense rows ys c → IsNoWorse sense b c

-- persons who list, at costs better than b, only some of m objects, which are fewer than they are; both
-- lists rise
pub record AreShort (sense : Sense) (m : ℕ) (rows : List Listing) (b : ℤ) (persons objects : List ℕ) : Type 0 where
  pub persons_rise : IsStrictlyIncreasing persons
  pub objects_rise : IsStrictlyIncreasing objects
  pub persons_in : All (IsNumber (length rows)) persons
  pub objects_in : All (IsNumber m) objects
  pub only : (i j : ℕ) (c : ℤ) → Contains persons i → listed_in (row_of rows i) j ≡ Some c → IsBetter sense c b → Contains objects j
  pub fewer : length objects < length persons

-- an assignment, the cost of its worst pair, and persons who are short of objects at better costs
pub record IsShown (l : ListedCosts) (xs : List ℕ) (b : ℤ) (persons objects : List ℕ) : Type 0 where
  pub assigned : IsAssignment l.rows xs
  pub worst : IsWorst l.sense l.rows xs b
  pub short : AreShort l.sense l.m l.rows b persons objects

-- what is so shown is a bottleneck
abbrev pub ShortMeansBottleneck : Type 0
ShortMeansBottleneck = (l : ListedCosts) (xs : List ℕ) (b : ℤ) (persons objects : List ℕ) →
    IsShown l xs b persons objects → IsBottleneck l.sense l.rows xs b
