-- The first of all assignments by their costs, as plans that stand one after the other.
use Rattle.std.specs.Prelude.{◌≡◌, ◌≢◌, ℕ, ℤ, pos, ◌<◌, ◌-◌, ◌*◌, List, length, take, drop, slice_index_or}
use Rattle.assign_core.specs.declared.sense.Sense.{Sense}
use Rattle.assign_core.specs.Rows.{Listing}
use Rattle.assign_core.specs.Assignment.{IsAssignment, IsNoWorse, total}

-- the plan at place t, from 0, of plans of n persons
abbrev pub plan_of : ℕ → ℕ → List ℕ → List ℕ
plan_of n t plans = take n (drop (t * n) plans)

-- an assignment is one of so many plans
abbrev pub IsAmong : ℕ → ℕ → List ℕ → List ℕ → Type 0
IsAmong n count plans ys = (t : ℕ) × (t < count) × (ys ≡ plan_of n t plans)

-- so many plans, in the order of their costs: each is an assignment, no two are the same, and none costs more than
-- the next one; under Max, less
pub record AreInOrder (sense : Sense) (rows : List Listing) (count : ℕ) (plans : List ℕ) : Type 0 where
  pub some : 0 < count
  pub long : length plans ≡ count * length rows
  pub assigned : (t : ℕ) → t < count → IsAssignment rows (plan_of (length rows) t plans)
  pub apart : (s t : ℕ) → s < t → t < count → plan_of (length rows) s plans ≢ plan_of (length rows) t plans
  pub rise : (s t : ℕ) → s < t → t < count →
      IsNoWorse sense (total rows (plan_of (length rows) s plans)) (total rows (plan_of (length rows) t plans))

-- these are the first of all assignments: each other one costs at least as much as the last of them; under Max, at
-- most
pub record AreFirst (sense : Sense) (rows : List Listing) (count : ℕ) (plans : List ℕ) : Type 0 where
  pub order : AreInOrder sense rows count plans
  pub others : (ys : List ℕ) → IsAssignment rows ys → ¬ IsAmong (length rows) count plans ys →
      IsNoWorse sense (total rows (plan_of (length rows) (count - 1) plans)) (total rows ys)

-- these are all assignments
pub record AreAll (sense : Sense) (rows : List Listing) (count : ℕ) (plans : List ℕ) : Type 0 where
  pub order : AreInOrder sense rows count plans
  pub all : (ys : List ℕ) → IsAssignment rows ys → IsAmong (length rows) count plans ys

-- the cost of each plan
pub record AreCosts (rows : List Listing) (count : ℕ) (plans : List ℕ) (costs : List ℤ) : Type 0 where
  pub long : length costs ≡ count
  pub each : (t : ℕ) → t < count → slice_index_or costs t (pos 0) ≡ total rows (plan_of (length rows) t plans)
