-- Listed pairs whose persons or objects are marked.
use Rattle.std.specs.Prelude.{◌≡◌, ℕ, ◌<◌, ◌↔◌, List, Bool, length, slice_index, All, Contains}
use Rattle.std.specs.List.Sorted.{IsStrictlyIncreasing}
use Rattle.assign_core.specs.Numbered.{IsNumber, IsMarked}
use Rattle.assign_core.specs.Rows.{Listing, IsListed}
use Rattle.cost_lists.specs.declared.source.Pairs.{Pairs}
use Rattle.cost_lists.specs.ListedCosts.{ListedCosts}

-- some pair is of person i and object j
abbrev pub IsPair : Pairs → ℕ → ℕ → Type 0
IsPair pairs i j =
    (q : ℕ) × (q < length pairs.persons.now) × (slice_index pairs.persons.now q ≡ i) × (slice_index pairs.objects.now q ≡ j)

-- the rows list just these pairs
abbrev pub ListJust : List Listing → Pairs → Type 0
ListJust rows pairs = (i j : ℕ) → IsListed rows i j ↔ IsPair pairs i j

-- a marked person lists object j
abbrev pub IsListedByMarked : Pairs → List Bool → ℕ → Type 0
IsListedByMarked pairs chosen j = (i : ℕ) × IsMarked chosen i × IsPair pairs i j

-- person i is marked and lists object j, which isn't
abbrev pub IsMissing : Pairs → List Bool → List Bool → ℕ → ℕ → Type 0
IsMissing pairs chosen named i j = IsMarked chosen i × IsPair pairs i j × ¬ IsMarked named j

-- persons of the costs, rising
pub record AreRisingPersons (l : ListedCosts) (persons : List ℕ) : Type 0 where
  pub within : All (IsNumber (length l.rows)) persons
  pub rise : IsStrictlyIncreasing persons

-- of the numbers from 1 to n, just these are marked
pub record MarksJust (marks : List Bool) (n : ℕ) (numbers : List ℕ) : Type 0 where
  pub long : length marks ≡ n
  pub just : (j : ℕ) → IsMarked marks j ↔ Contains numbers j

-- each person of the rows lists each of m objects
abbrev pub ListAll : List Listing → ℕ → Type 0
ListAll rows m = (i j : ℕ) → IsListed rows i j ↔ (IsNumber (length rows) i × IsNumber m j)
