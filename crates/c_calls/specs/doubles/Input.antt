-- Problems over doubles that a caller gives.
use Rattle.std.specs.Prelude.{◌≡◌, ℕ, ◌*◌, List, length, All}
use lib.Ieee.{Float}
use Rattle.assign_core.specs.Rows.{Listing}
use Rattle.double_costs.specs.DoubleRows.{rows_of_doubles}

-- a given problem: the sense and the numbers of persons and objects, as numbers; the lengths of the
-- buffers that need one value for each person, and of those that need one for each object; and the
-- costs row by row
pub record InputDoubles : Type 0 where
  pub sense : ℕ
  pub n : ℕ
  pub m : ℕ
  pub by_person : List ℕ
  pub by_object : List ℕ
  pub costs : List Float

-- each list has the right length
pub record HasLengths (g : InputDoubles) : Type 0 where
  pub pairs : length g.costs ≡ g.n * g.m
  pub by_person : All (λ k. k ≡ g.n) g.by_person
  pub by_object : All (λ k. k ≡ g.m) g.by_object

-- the rows of the problem, one for each person
abbrev pub rows_in : InputDoubles → List Listing
rows_in g = rows_of_doubles g.m g.n g.costs
