-- Rows of listed pairs, in which a pair may be given more than once.
use Rattle.std.specs.Prelude.{ℕ, zero, suc, ◌+◌, ℤ, List, [], ◌∷◌, Option, None, Some, ◌==◌, ◌&&◌, if◌then◌else◌, Contains}
use Rattle.std.specs.Int.{int_min, int_max}
use Rattle.assign_core.specs.declared.sense.Sense.{Sense}
use Rattle.assign_core.specs.declared.sense.Sense.TheVariants.{Min, Max}
use Rattle.assign_core.specs.Rows.{Listing}
use Rattle.assign_core.specs.Assignment.{IsNoWorse}
use Rattle.assign_core.specs.Sparse.{Triple}

-- three lists as triples of a person, an object and a cost
abbrev pub triples_of : List ℕ → List ℕ → List ℤ → List Triple
triples_of (i ∷ persons) (j ∷ objects) (c ∷ costs) = (i, j, c) ∷ triples_of persons objects costs
triples_of persons objects costs = []

-- the lesser of two costs under Min, the greater under Max, or the first if there is no second
abbrev pub better_cost : Sense → ℤ → Option ℤ → ℤ
better_cost sense cost None = cost
better_cost Min cost (Some other) = int_min cost other
better_cost Max cost (Some other) = int_max cost other

-- the best of the costs given for person i and object j, if any is given
abbrev pub best_given : Sense → List Triple → ℕ → ℕ → Option ℤ
best_given sense [] i j = None
best_given sense (t ∷ triples) i j =
    if (t.0 == i) && (t.1 == j) then Some (better_cost sense t.2 (best_given sense triples i j))
    else best_given sense triples i j

-- object j with its cost in front of a row, if it has one
abbrev pub with_cost : ℕ → Option ℤ → Listing → Listing
with_cost j None row = row
with_cost j (Some c) row = (j, c) ∷ row

-- those of the k objects j, j + 1, .. that person i lists, each at its best cost
abbrev pub row_given : Sense → List Triple → ℕ → ℕ → ℕ → Listing
row_given sense triples i j zero = []
row_given sense triples i j (suc k) = with_cost j (best_given sense triples i j) (row_given sense triples i (j + 1) k)

-- the rows of the n persons i, i + 1, .. among m objects
abbrev pub rows_given : Sense → List Triple → ℕ → ℕ → ℕ → List Listing
rows_given sense triples m i zero = []
rows_given sense triples m i (suc n) = row_given sense triples i 1 m ∷ rows_given sense triples m (i + 1) n

-- a cost that is given for person i and object j, and none that is given is better; or none is given
abbrev pub IsBestGiven : Sense → List Triple → ℕ → ℕ → Option ℤ → Type 0
IsBestGiven sense triples i j None = (c : ℤ) → ¬ Contains triples (i, j, c)
IsBestGiven sense triples i j (Some c) =
    Contains triples (i, j, c) × ((d : ℤ) → Contains triples (i, j, d) → IsNoWorse sense c d)
