-- Marks for the numbers 1, 2, ..
use Rattle.std.specs.Prelude.{ℕ, ◌⊎◌, ◌↔◌, List, Bool}
use Rattle.assign_core.specs.Numbered.{IsMarked}

-- the marked numbers are now those marked before and those with property P
abbrev pub AddsMarks : List Bool → (ℕ → Type 0) → List Bool → Type 0
AddsMarks before P after = (j : ℕ) → IsMarked after j ↔ (IsMarked before j ⊎ P j)
