-- How many persons change their object, and the best plans that change fewest.
use Rattle.std.specs.Prelude.{◌≡◌, ℕ, ℤ, pos, ◌+◌, ◌≤◌, ◌+ℤ◌, ◌-ℤ◌, ◌*ℤ◌, List, [], ◌∷◌, ◌==◌, if◌then◌else◌, length}
use Rattle.assign_core.specs.declared.sense.Sense.{Sense}
use Rattle.assign_core.specs.declared.sense.Sense.TheVariants.{Min, Max}
use Rattle.assign_core.specs.Assignment.{IsBest}
use Rattle.assign_core.specs.Rows.{Listing}
use Rattle.cost_lists.specs.ListedCosts.{ListedCosts}

-- 1 if a person has another object than the kept one, otherwise 0; the kept one is 0 if there is none
abbrev pub change : ℕ → ℕ → ℕ
change kept j = if kept == j then 0 else 1

-- how many persons have another object than the kept one
abbrev pub changes : List ℕ → List ℕ → ℕ
changes [] xs = 0
changes (k ∷ kept) [] = 0
changes (k ∷ kept) (x ∷ xs) = change k x + changes kept xs

-- an optimal assignment; of all optimal ones none changes fewer persons
pub record HasFewestChanges (l : ListedCosts) (kept xs : List ℕ) : Type 0 where
  pub best : IsBest l.sense l.rows xs
  pub fewest : (ys : List ℕ) → IsBest l.sense l.rows ys → changes kept xs ≤ changes kept ys

-- a cost that is worse by a change
abbrev pub changed_by : Sense → ℤ → ℕ → ℤ
changed_by Min cost change = cost +ℤ pos change
changed_by Max cost change = cost -ℤ pos change

-- a cost that counts before all changes of n persons, and is worse by a change
abbrev pub with_change : Sense → ℕ → ℤ → ℕ → ℤ
with_change sense n cost change = changed_by sense (pos (n + 1) *ℤ cost) change

-- a row whose person keeps an object
abbrev pub combined_row : Sense → ℕ → ℕ → Listing → Listing
combined_row sense n kept [] = []
combined_row sense n kept (e ∷ row) = (e.0, with_change sense n e.1 (change kept e.0)) ∷ combined_row sense n kept row

abbrev pub combined_rows : Sense → ℕ → List ℕ → List Listing → List Listing
combined_rows sense n [] rows = []
combined_rows sense n (k ∷ kept) [] = []
combined_rows sense n (k ∷ kept) (row ∷ rows) = combined_row sense n k row ∷ combined_rows sense n kept rows

-- the same pairs at combined costs: n + 1 times the cost, and 1 more for a change, under Max 1 less
abbrev pub combined_lists : List ℕ → ListedCosts → ListedCosts
combined_lists kept l = record {
  sense = l.sense;
  m = l.m;
  rows = combined_rows l.sense (length l.rows) kept l.rows;
}

-- what is best at combined costs is best, and of all best plans none changes fewer persons
abbrev pub CombinedMeansFewest : Type 0
CombinedMeansFewest =
    (l : ListedCosts) (kept xs : List ℕ) → length kept ≡ length l.rows →
    IsBest l.sense (combined_lists kept l).rows xs → HasFewestChanges l kept xs
