-- Parts of a row, one after the other.
use Rattle.std.proofs.Common.{ℕ, ℤ, List, ◌≤◌, ◌≤ℤ◌, ◌<◌, ◌+◌, arith, inl, inr}
use Rattle.std.proofs.lemmas.Bool.{cases_lt}
use Rattle.std.proofs.lemmas.Int.{ints}
use Rattle.group_checker.specs.declared.plan.Plan.{Plan}
use Rattle.group_checker.specs.inside.Reading.{AllExceed, PartFalls}

-- objects that cost more aren't as good
pub exceeding_falls : (p : Plan) (row : List ℤ) (sum : ℤ) (group from to : ℕ) → AllExceed p row sum from to → PartFalls p row sum group from to
exceeding_falls p row sum group from to more k last first up = let above = more k last first in absurd (grind (arith, ints))

pub parts_fall : (p : Plan) (row : List ℤ) (sum : ℤ) (group at to : ℕ) → PartFalls p row sum group 0 at → PartFalls p row sum group at to → PartFalls p row sum group 0 to
parts_fall p row sum group at to before after k last _ up = elim (cases_lt k at) [
  | inl early ↦ before k early (omega arith) up
  | inr late ↦ after k last late up
]
