-- Groups of objects that can change places between optimal assignments.
use Rattle.std.specs.Prelude.{◌≡◌, ◌≢◌, ◌↔◌, ◌⊎◌, ℕ, ℤ, pos, ◌≤◌, List, [], ◌∷◌, Some, length, Contains}
use Rattle.assign_core.specs.Numbered.{IsNumber, numbered}
use Rattle.assign_core.specs.Rows.{listed_in, row_of}
use Rattle.assign_core.specs.Assignment.{IsBest}
use Rattle.assign_core.specs.Prices.{price_of}
use Rattle.dual_checker.specs.Faults.{own_object}
use Rattle.cost_lists.specs.Blocks.{reduced_sum}
use Rattle.cost_lists.specs.Exact.{IsOptimum}
use Rattle.cost_lists.specs.ListedCosts.{AreInLimits, ListedCosts}
use Rattle.plan_checker.specs.Ranks.{own_sum}

-- person i lists object j, which is as good for it as its own one: with its price it costs the same
pub record IsAsGood (l : ListedCosts) (xs : List ℕ) (prices : List ℤ) (i j : ℕ) : Type 0 where
  pub cost : ℤ
  pub listed : listed_in (row_of l.rows i) j ≡ Some cost
  pub same : reduced_sum l.sense prices j cost ≡ own_sum l xs prices i

-- the person who has object x could have another object j, which is as good for it
pub record IsMove (l : ListedCosts) (xs : List ℕ) (prices : List ℤ) (x j : ℕ) : Type 0 where
  pub person : ℕ
  pub number : IsNumber (length l.rows) person
  pub own : own_object xs person ≡ x
  pub good : IsAsGood l xs prices person j
  pub other : j ≢ x

-- nobody has object x: it leads to 0, which stands for no person
pub record IsOut (m : ℕ) (xs : List ℕ) (x j : ℕ) : Type 0 where
  pub number : IsNumber m x
  pub unowned : ¬ Contains xs x
  pub out : j ≡ 0

-- object j, which somebody has, may be left without a person, as its price is 0
pub record IsLeavable (m : ℕ) (xs : List ℕ) (prices : List ℤ) (x j : ℕ) : Type 0 where
  pub out : x ≡ 0
  pub number : IsNumber m j
  pub owned : Contains xs j
  pub free : price_of prices j ≡ pos 0

-- an arrow leads from x to j, each an object or 0
abbrev pub IsArrow : ListedCosts → List ℕ → List ℤ → ℕ → ℕ → Type 0
IsArrow l xs prices x j = IsMove l xs prices x j ⊎ (IsOut l.m xs x j ⊎ IsLeavable l.m xs prices x j)

-- arrows lead from x over these to j
abbrev pub Leads : ListedCosts → List ℕ → List ℤ → ℕ → List ℕ → ℕ → Type 0
Leads l xs prices x [] j = x ≡ j
Leads l xs prices x (v ∷ vs) j = IsArrow l xs prices x v × Leads l xs prices v vs j

-- arrows lead from x to j, or they are the same
abbrev pub Reaches : ListedCosts → List ℕ → List ℤ → ℕ → ℕ → Type 0
Reaches l xs prices x j = (vs : List ℕ) × Leads l xs prices x vs j

-- a number for each object, and one for 0, that never rises along arrows; two have the same number
-- exactly where each reaches the other
pub record AreGroups (l : ListedCosts) (xs : List ℕ) (prices : List ℤ) (groups : List ℕ) : Type 0 where
  pub long : length groups ≡ l.m
  pub out : ℕ
  pub falls : (x j : ℕ) → IsArrow l xs prices x j → numbered groups j out ≤ numbered groups x out
  pub same : (x j : ℕ) → x ≤ l.m → j ≤ l.m →
      (numbered groups x out ≡ numbered groups j out) ↔ (Reaches l xs prices x j × Reaches l xs prices j x)

-- in some optimal assignment person i has object j
pub record MayHave (l : ListedCosts) (i j : ℕ) : Type 0 where
  pub plan : List ℕ
  pub best : IsBest l.sense l.rows plan
  pub has : own_object plan i ≡ j

-- object j is as good for person i as its own one, and has the same number
pub record IsInGroup (l : ListedCosts) (xs : List ℕ) (prices : List ℤ) (groups : List ℕ) (i j : ℕ) : Type 0 where
  pub good : IsAsGood l xs prices i j
  pub same : numbered groups j 0 ≡ numbered groups (own_object xs i) 0

-- what a person may have in an optimal assignment is in the group of its own object
abbrev pub GroupsAreKept : Type 0
GroupsAreKept = (l : ListedCosts) (xs : List ℕ) (prices : List ℤ) (groups : List ℕ) → AreInLimits l → IsOptimum l xs prices →
    AreGroups l xs prices groups → (i j : ℕ) → IsNumber (length l.rows) i → MayHave l i j → IsInGroup l xs prices groups i j

-- and each object in that group it may have
abbrev pub GroupsMeanChanges : Type 0
GroupsMeanChanges = (l : ListedCosts) (xs : List ℕ) (prices : List ℤ) (groups : List ℕ) → AreInLimits l → IsOptimum l xs prices →
    AreGroups l xs prices groups → (i j : ℕ) → IsNumber (length l.rows) i → MayHave l i j ↔ IsInGroup l xs prices groups i j
