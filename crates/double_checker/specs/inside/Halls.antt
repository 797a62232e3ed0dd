-- What the persons of a list are allowed, by places.
use Rattle.std.specs.Prelude.{◌≡◌, ℕ, ◌+◌, ◌-◌, ◌*◌, ◌<◌, List, Bool, true, false, length, IsTrue, slice_index_or}
use lib.Ieee.{Float}
use Rattle.double_costs.specs.Units.{is_number}
use Rattle.double_checker.specs.inside.Pairs.{at, row_part}

-- each object that a row allows is named
abbrev pub IsRowNamed : List Float → List Bool → ℕ → Type 0
IsRowNamed row named k = (j : ℕ) → j < k → IsTrue (is_number (at row j)) → slice_index_or named j false ≡ true

-- the rows of the first k persons of a list allow only named objects
abbrev pub AreRowsNamed : List Float → List ℕ → List Bool → ℕ → Type 0
AreRowsNamed costs persons named k =
    (i : ℕ) → i < k → IsRowNamed (row_part (length named) (slice_index_or persons i 0 - 1) costs) named (length named)

-- the person at a place of a list is allowed object j
abbrev pub IsAllowed : ℕ → List Float → List ℕ → ℕ → ℕ → Type 0
IsAllowed m costs persons j i = IsTrue (is_number (at costs ((slice_index_or persons i 0 - 1) * m + (j - 1))))

-- some of the persons is
abbrev pub IsAllowedToOne : ℕ → List Float → List ℕ → ℕ → Type 0
IsAllowedToOne m costs persons j = (i : ℕ) × (i < length persons) × IsAllowed m costs persons j i

-- each of the first k objects is allowed to one of the persons
abbrev pub AreAllowed : ℕ → List Float → List ℕ → List ℕ → ℕ → Type 0
AreAllowed m costs persons objects k = (q : ℕ) → q < k → IsAllowedToOne m costs persons (slice_index_or objects q 0)
