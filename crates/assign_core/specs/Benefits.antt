-- Benefits: costs scaled by one more than the number of persons, and negated to minimise.
use Rattle.std.specs.Prelude.{ℕ, ℤ, pos, negsuc, neg_ℤ, ◌*ℤ◌, ◌≤ℤ◌, ◌+◌, List, length, map}
use Rattle.assign_core.specs.declared.sense.Sense.{Sense}
use Rattle.assign_core.specs.declared.sense.Sense.TheVariants.{Min, Max}
use Rattle.assign_core.specs.declared.numbers.TheConstants.{MOST_PERSONS, GREATEST_COST}
use Rattle.assign_core.specs.Rows.{Listing}

-- n + 1 to maximise, -(n + 1) to minimise
abbrev pub factor : Sense → ℕ → ℤ
factor Min n = negsuc n
factor Max n = pos (n + 1)

-- the benefit of a cost among n persons
abbrev pub benefit : Sense → ℕ → ℤ → ℤ
benefit sense n cost = factor sense n *ℤ cost

-- a row with benefits in place of costs
abbrev pub benefit_row : Sense → ℕ → Listing → Listing
benefit_row sense n row = map (λ e. (e.0, benefit sense n e.1)) row

-- the rows of a problem with benefits in place of costs
abbrev pub benefit_rows : Sense → List Listing → List Listing
benefit_rows sense rows = map (benefit_row sense (length rows)) rows

-- its absolute value is at most the greatest cost times one more than the most persons
pub record IsBenefit (a : ℤ) : Type 0 where
  pub least : neg_ℤ (pos (MOST_PERSONS + 1) *ℤ GREATEST_COST) ≤ℤ a
  pub greatest : a ≤ℤ (pos (MOST_PERSONS + 1) *ℤ GREATEST_COST)
