-- Tight pairs: their sums of cost and price aren't above their persons' values.
use Rattle.std.specs.Prelude.{ℕ, ℤ, pos, ◌<◌, ◌≤◌, ◌<ℤ◌, ◌⊎◌, List, length, slice_index_or, Contains}
use Rattle.assign_core.specs.declared.sense.Sense.{Sense}
use Rattle.cost_lists.specs.Source.{part_of}
use Rattle.exact_checker.specs.inside.Sums.{sum_at}
use Rattle.c_wide.specs.declared.fewest.tight.Tight.{Tight}

abbrev pub pair : ℕ → ℕ → Tight
pair i j = record { person = i; object = j }

-- what the one list has, the other has too
abbrev pub IsIn : List Tight → List Tight → Type 0
IsIn before after = (t : Tight) → Contains before t → Contains after t

-- the sums of a row from one place up to another are above the value
abbrev pub AreAbove : Sense → List ℤ → List ℤ → ℤ → ℕ → ℕ → Type 0
AreAbove sense row prices value from to = (j : ℕ) → j < to → from ≤ j → value <ℤ sum_at sense row prices j

-- of the first k objects of a row each is tight, or its sum is above the value
abbrev pub AreNoted : Sense → List ℤ → List ℤ → ℤ → ℕ → ℕ → List Tight → Type 0
AreNoted sense row prices value person k tight =
    (j : ℕ) → j < k → (value <ℤ sum_at sense row prices j) ⊎ Contains tight (pair person j)

-- of each of the first k persons
abbrev pub AreTight : Sense → List ℤ → List ℤ → List ℤ → ℕ → List Tight → Type 0
AreTight sense costs prices values k tight =
    (i : ℕ) → i < k → AreNoted sense (part_of (length prices) i costs) prices (slice_index_or values i (pos 0)) i (length prices) tight
