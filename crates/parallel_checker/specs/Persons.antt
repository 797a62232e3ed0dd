-- Persons with their objects, at given prices.
use Rattle.std.specs.Prelude.{ℕ, ℤ, pos, List}
use Rattle.assign_core.specs.declared.sense.Sense.{Sense}
use Rattle.assign_core.specs.Benefits.{benefit_rows}
use Rattle.assign_core.specs.Numbered.{numbered}
use Rattle.assign_core.specs.Rows.{Listing, IsListed, row_of}
use Rattle.assign_core.specs.Slackness.{HasSlack}

-- person i lists its object, and has slackness 1 with it
pub record IsSlackPerson (sense : Sense) (rows : List Listing) (xs : List ℕ) (prices : List ℤ) (i : ℕ) : Type 0 where
  pub listed : IsListed rows i (numbered xs i 0)
  pub slack : HasSlack (pos 1) prices (row_of (benefit_rows sense rows) i) (numbered xs i 0)
