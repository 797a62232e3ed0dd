-- What a search has found so far: persons in the order in which they were reached, and the objects
-- met on the way.
use Rattle.std.specs.Prelude.{◌≡◌, ℕ, ◌+◌, ◌<◌, ◌≤◌, List, [], ◌∷◌, Option, None, Some, Bool, true, false, if◌then◌else◌, length, count_by, slice_index_or}
use Rattle.assign_core.specs.Numbered.{IsMarked}
use Rattle.assign_core.specs.Rows.{Listing, IsListed}
use Rattle.assign_core.specs.Matching.{owner_of}
use Rattle.hall_refuter.specs.declared.reach.Arrival.{Arrival}
use Rattle.hall_refuter.specs.declared.reach.Found.{Found}

-- the person at which a search begins
abbrev pub beginner : ℕ → Found
beginner x = record { person = x; arrival = None }

-- the owner of an object that the person found at place p lists
abbrev pub owner_through : ℕ → ℕ → ℕ → Found
owner_through x j p = record { person = x; arrival = Some (record { object = j; parent = p }) }

-- the person found at place t
abbrev pub person_at : List Found → ℕ → ℕ
person_at found t = (slice_index_or found t (beginner 0)).person

-- how this person was reached
abbrev pub arrival_at : List Found → ℕ → Option Arrival
arrival_at found t = (slice_index_or found t (beginner 0)).arrival

-- the object through which a person was reached, if there is one
abbrev pub arrival_object : Option Arrival → Option ℕ
arrival_object None = None
arrival_object (Some a) = Some a.object

-- the object through which this person was reached
abbrev pub object_at : List Found → ℕ → Option ℕ
object_at found t = arrival_object (arrival_at found t)

-- person x stands at one of the first h places
abbrev pub IsAmongFirst : List Found → ℕ → ℕ → Type 0
IsAmongFirst found x h = (t : ℕ) × (t < h) × (person_at found t ≡ x)

-- the marked numbers, where the first mark is that of number j
abbrev pub marked_from : ℕ → List Bool → List ℕ
marked_from j [] = []
marked_from j (mark ∷ marks) = if mark then j ∷ marked_from (j + 1) marks else marked_from (j + 1) marks

-- the person at place t was reached through an object that it owns and that a person found before
-- lists; the first person has no arrival
abbrev pub IsArrived : List Listing → List (Option ℕ) → List Found → ℕ → ℕ → Option Arrival → Type 0
IsArrived rows owners found t x None = x ≡ person_at found 0
IsArrived rows owners found t x (Some a) =
    (a.parent < t) × IsListed rows (person_at found a.parent) a.object × (owner_of owners a.object ≡ Some x)

-- no person is reached twice, and the marked objects are those through which somebody was reached
pub record IsReach (rows : List Listing) (owners : List (Option ℕ)) (found : List Found) (met : List Bool) :
    Type 0 where
  pub long : length met ≡ length rows
  pub count : length found ≡ count_by (λ b. b) met + 1
  pub arrived : (t : ℕ) → t < length found
      → IsArrived rows owners found t (person_at found t) (arrival_at found t)
  pub apart : (s t j : ℕ) → s < t → t < length found → object_at found s ≡ Some j
      → object_at found t ≡ Some j → ⊥
  pub marked : (t j : ℕ) → t < length found → object_at found t ≡ Some j → IsMarked met j
  pub through : (j : ℕ) → IsMarked met j → (t : ℕ) × (t < length found) × (object_at found t ≡ Some j)

-- what is found and met stays found and met
pub record Grows (found : List Found) (met : List Bool) (later : List Found) (marks : List Bool) : Type 0 where
  pub longer : length found ≤ length later
  pub same : (t : ℕ) → t < length found → person_at later t ≡ person_at found t
  pub kept : (j : ℕ) → IsMarked met j → IsMarked marks j

-- whether object j is unowned; otherwise it is met
abbrev pub IsMet : List (Option ℕ) → List Bool → ℕ → Bool → Type 0
IsMet owners met j true = owner_of owners j ≡ None
IsMet owners met j false = IsMarked met j

-- each object that one of the first h persons lists is met
abbrev pub IsWalked : List Listing → List Found → List Bool → ℕ → Type 0
IsWalked rows found met h = (t j : ℕ) → t < h → IsListed rows (person_at found t) j → IsMarked met j

-- the result of a visit at person x: an unowned object that it lists, or each object that it lists
-- is met
abbrev pub IsVisited : List Listing → List (Option ℕ) → List Bool → ℕ → Option ℕ → Type 0
IsVisited rows owners met x (Some j) = IsListed rows x j × (owner_of owners j ≡ None)
IsVisited rows owners met x None = (j : ℕ) → IsListed rows x j → IsMarked met j

-- the objects through which persons were reached, from the person at place t back to the first
abbrev pub Climbs : List Found → ℕ → List ℕ → Type 0
Climbs found t [] = arrival_at found t ≡ None
Climbs found t (j ∷ js) = (a : Arrival) × (arrival_at found t ≡ Some a) × (a.object ≡ j) × Climbs found a.parent js

-- each parent was found before
abbrev pub IsClimbable : List Found → Type 0
IsClimbable found = (t : ℕ) (a : Arrival) → t < length found → arrival_at found t ≡ Some a → a.parent < t
