-- Prices and a matching, as functions of the numbers of persons and objects. A cost is turned so that
-- less is better, or the mark of an unlisted object; 0 is nobody's number.
use Rattle.std.specs.Prelude.{◌≡◌, ℕ, ℤ, pos, ◌+ℤ◌, ◌≤ℤ◌, ◌<ℤ◌, ◌<◌, ◌≤◌, List, length, slice_index_or}
use Rattle.assign_core.specs.Rows.{IsCost, listed_in, row_of}
use Rattle.cost_lists.specs.declared.numbers.TheConstants.{UNLISTED}
use Rattle.cost_lists.specs.ListedCosts.{ListedCosts}
use Rattle.cost_lists.specs.Exact.{IsPriceInLimits}
use Rattle.cost_lists.specs.Own.{turned_or_unlisted}

-- the cost of person i and object j
abbrev pub cost_at : ListedCosts → ℕ → ℕ → ℤ
cost_at l i j = turned_or_unlisted l.sense (listed_in (row_of l.rows i) j)

-- the number at a place, or 0
abbrev pub at : List ℕ → ℕ → ℕ
at xs k = slice_index_or xs k 0

-- the integer at a place, or 0
abbrev pub int_at : List ℤ → ℕ → ℤ
int_at xs k = slice_index_or xs k (pos 0)

-- each cost is in range or the mark
abbrev pub AreCostsOrMarks : (ℕ → ℕ → ℤ) → Type 0
AreCostsOrMarks c = (i k : ℕ) → c i k <ℤ UNLISTED → IsCost (c i k)

-- a row with one cost at each place
pub record IsRowOf (c : ℕ → ℤ) (row : List ℤ) : Type 0 where
  pub each : (k : ℕ) → k < length row → int_at row k ≡ c k

-- person i lists object j, which is a cheapest of its objects at these prices
pub record IsChosen (c : ℕ → ℕ → ℤ) (p : ℕ → ℤ) (i j : ℕ) : Type 0 where
  pub listed : c i j <ℤ UNLISTED
  pub least : (k : ℕ) → c i k <ℤ UNLISTED → (c i j +ℤ p j) ≤ℤ (c i k +ℤ p k)

-- person i has object j
pub record IsOwner (n : ℕ) (x : ℕ → ℕ) (i j : ℕ) : Type 0 where
  pub last : i ≤ n
  pub back : x i ≡ j

-- object j has the owner i
pub record IsObject (m : ℕ) (o : ℕ → ℕ) (i j : ℕ) : Type 0 where
  pub some : 0 < i
  pub last : j ≤ m
  pub back : o j ≡ i

-- the owners of objects and the objects of persons agree
pub record IsMatched (n m : ℕ) (o x : ℕ → ℕ) : Type 0 where
  pub nothing : o 0 ≡ 0
  pub owned : (j : ℕ) → 0 < o j → IsOwner n x (o j) j
  pub owning : (i : ℕ) → 0 < x i → IsObject m o i (x i)

-- each person's object is chosen, prices are in their limits, and 0 where nobody owns the object
pub record IsPlan (c : ℕ → ℕ → ℤ) (n m : ℕ) (p : ℕ → ℤ) (o x : ℕ → ℕ) : Type 0 where
  pub matched : IsMatched n m o x
  pub chosen : (i : ℕ) → 0 < x i → IsChosen c p i (x i)
  pub priced : (k : ℕ) → IsPriceInLimits (p k)
  pub free : (j : ℕ) → o j ≡ 0 → p j ≡ pos 0
