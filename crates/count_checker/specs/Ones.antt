-- One-to-one problems as problems with counts.
use Rattle.std.specs.Prelude.{◌≡◌, ◌↔◌, ℕ, ◌+◌, List, [], ◌∷◌, ◌++◌, Bool, ◌==◌, map, replicate, length, All}
use Rattle.assign_core.specs.declared.sense.Sense.{Sense}
use Rattle.assign_core.specs.Assignment.{IsAssignment, IsBest, total}
use Rattle.assign_core.specs.Rows.{Listing, IsRising, IsWithin}
use Rattle.assign_core.specs.Sparse.{Triple}
use Rattle.count_checker.specs.Counts.{CountProblem, IsBestPlan, IsPlan, chosen, cost_of}

-- the pairs that person i lists
abbrev pub pairs_of : ℕ → Listing → List Triple
pairs_of i row = map (λ e. (i, e.0, e.1)) row

-- the pairs that the persons i, i + 1, .. list
abbrev pub pairs_from : ℕ → List Listing → List Triple
pairs_from i [] = []
pairs_from i (row ∷ rows) = pairs_of i row ++ pairs_from (i + 1) rows

-- in a person's row, the pair with the object
abbrev pub choice_of : Listing → ℕ → List Bool
choice_of row j = map (λ e. e.0 == j) row

-- the plan that chooses each person's object
abbrev pub plan_of : List Listing → List ℕ → List Bool
plan_of (row ∷ rows) (j ∷ xs) = choice_of row j ++ plan_of rows xs
plan_of rows xs = []

-- each row takes exactly one column, each of m columns goes to at most one row, and none has a group
abbrev pub ones : Sense → ℕ → List Listing → CountProblem
ones sense m rows = record {
  sense = sense;
  pairs = pairs_from 1 rows;
  rows = record { least = replicate (length rows) 1; most = replicate (length rows) 1 };
  columns = record { least = replicate m 0; most = replicate m 1 };
  groups = replicate m 0;
}

-- the assignment's plan keeps counts and groups, costs what the assignment costs, and is best just
-- where that is
pub record IsAsPlan (sense : Sense) (m : ℕ) (rows : List Listing) (xs : List ℕ) : Type 0 where
  pub planned : IsPlan (ones sense m rows) (plan_of rows xs)
  pub cost : cost_of (chosen (pairs_from 1 rows) (plan_of rows xs)) ≡ total rows xs
  pub best : IsBest sense rows xs ↔ IsBestPlan (ones sense m rows) (plan_of rows xs)

-- the plan is that of an assignment
pub record IsOfAssignment (rows : List Listing) (plan : List Bool) : Type 0 where
  pub objects : List ℕ
  pub assigned : IsAssignment rows objects
  pub same : plan ≡ plan_of rows objects

-- the plans of ones are those of assignments
abbrev pub OnesAreAssignments : Type 0
OnesAreAssignments = (sense : Sense) (m : ℕ) (rows : List Listing) → All IsRising rows → All (IsWithin m) rows →
    ((xs : List ℕ) → IsAssignment rows xs → IsAsPlan sense m rows xs)
    × ((plan : List Bool) → IsPlan (ones sense m rows) plan → IsOfAssignment rows plan)
