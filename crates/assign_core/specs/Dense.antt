-- Problems in which each person lists each object.
use Rattle.std.specs.Prelude.{ℕ, ℤ, zero, suc, ◌+◌, List, [], ◌∷◌, take, drop}
use Rattle.assign_core.specs.Rows.{Listing}

-- a row with these costs for the objects j, j + 1, ..
abbrev pub row_from : ℕ → List ℤ → Listing
row_from j [] = []
row_from j (c ∷ costs) = (j, c) ∷ row_from (j + 1) costs

-- the rows of m persons: the first n costs are those of the first person, the next n those of the
-- second, ..
abbrev pub rows_cut : ℕ → ℕ → List ℤ → List Listing
rows_cut n zero costs = []
rows_cut n (suc m) costs = row_from 1 (take n costs) ∷ rows_cut n m (drop n costs)

-- the problem of n persons and n objects with these n * n costs
abbrev pub dense_rows : ℕ → List ℤ → List Listing
dense_rows n costs = rows_cut n n costs
