-- Parts of a row, one after the other.
use Rattle.std.proofs.Common.{◌≡◌, ℕ, ℤ, List, arith, inl, inr}
use Rattle.std.proofs.lemmas.Bool.{cases_lt}
use Rattle.std.proofs.lemmas.Int.{ints}
use Rattle.plan_checker.specs.declared.rises.Plan.{Plan}
use Rattle.plan_checker.specs.inside.Rises.{AllReach, PartRises, sum_at}

-- pairs above the own ones by the bound aren't in the core
pub reaching_rises : (p : Plan) (i : ℕ) (row : List ℤ) (sum : ℤ) (from to : ℕ) → sum ≡ sum_at p i → AllReach p row sum from to → PartRises p i row from to
reaching_rises p i row sum from to same reach j last first low other = let above = reach j last first in absurd (omega (arith, ints))

pub parts_rise : (p : Plan) (i : ℕ) (row : List ℤ) (at to : ℕ) → PartRises p i row 0 at → PartRises p i row at to → PartRises p i row 0 to
parts_rise p i row at to before after j last _ = elim (cases_lt j at) [
  | inl early ↦ before j early (omega arith)
  | inr late ↦ after j last late
]
