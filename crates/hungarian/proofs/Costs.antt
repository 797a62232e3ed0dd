-- The costs of rows in the limits, turned.
use Rattle.std.proofs.Common.{◌≡◌, ℕ, zero, suc, ℤ, pos, ◌<ℤ◌, List, [], length, Option, None, Some, IsSome, unwrap_or, arith, refl, rules, sym, subst, inl, inr}
use Rattle.std.specs.List.{All}
use Rattle.std.proofs.lemmas.Int.{ints}
use Rattle.std.proofs.lemmas.Bool.{cases_lt}
use Rattle.std.proofs.lemmas.List.{get_or_past}
use Rattle.assign_core.specs.declared.sense.Sense.{Sense}
use Rattle.assign_core.specs.Numbered.{IsNumber}
use Rattle.assign_core.specs.Rows.{Listing, IsCost, HasCosts, IsWithin, IsListed, listed_in, listed_or_zero, row_of}
use Rattle.assign_core.proofs.Listed.{object_within}
use Rattle.assign_core.proofs.RowLemmas.{IsCost-listed}
use Rattle.cost_lists.specs.declared.numbers.TheConstants.{UNLISTED}
use Rattle.cost_lists.specs.ListedCosts.{ListedCosts, AreInLimits}
use Rattle.cost_lists.specs.Own.{minimised, turned_or_unlisted}
use Rattle.cost_lists.proofs.Owns.{turned_range}
use Rattle.hungarian.specs.inside.Plans.{cost_at, AreCostsOrMarks}

-- what holds of each row, and of a row with no entry, holds of the row of any number
any_row : (P : Listing → Type 0) (rows : List Listing) (i : ℕ) → All P rows → P [] → P (row_of rows i)
any_row P rows zero h e = e
any_row P rows (suc k) h e = elim (cases_lt k (length rows)) [
  | inl less ↦ h k [] less
  | inr past ↦ subst P (sym (get_or_past rows k [] past)) e
]

pub costs_of_row : (l : ListedCosts) (i : ℕ) → AreInLimits l → HasCosts (row_of l.rows i)
costs_of_row l i lim = any_row HasCosts l.rows i lim.costs (λ k d lt. absurd (omega arith))

pub within_row : (l : ListedCosts) (i : ℕ) → AreInLimits l → IsWithin l.m (row_of l.rows i)
within_row l i lim = any_row (IsWithin l.m) l.rows i lim.within (λ k d lt. absurd (omega arith))

pub some_from_cost : (sense : Sense) (o : Option ℤ) → turned_or_unlisted sense o <ℤ UNLISTED → IsSome o
some_from_cost sense None h = absurd (omega (arith, ints))
some_from_cost sense (Some c) h = refl

pub turned_is : (sense : Sense) (o : Option ℤ) → IsSome o →
    turned_or_unlisted sense o ≡ minimised sense (unwrap_or o (pos 0))
turned_is sense None s = absurd (search rules)
turned_is sense (Some c) s = refl

-- a listed pair's cost is no mark
pub listed_from_cost : (l : ListedCosts) (i k : ℕ) → cost_at l i k <ℤ UNLISTED → IsListed l.rows i k
listed_from_cost l i k h = some_from_cost l.sense (listed_in (row_of l.rows i) k) h

pub listed_cost : (l : ListedCosts) (i k : ℕ) → AreInLimits l → IsListed l.rows i k → IsCost (cost_at l i k)
listed_cost l i k lim s =
    subst IsCost (sym (turned_is l.sense (listed_in (row_of l.rows i) k) s))
    (turned_range l.sense (listed_or_zero (row_of l.rows i) k)
    (IsCost-listed (row_of l.rows i) k (costs_of_row l i lim)))

pub cost_from_listed : (l : ListedCosts) (i k : ℕ) → AreInLimits l → IsListed l.rows i k → cost_at l i k <ℤ UNLISTED
cost_from_listed l i k lim s = let c = listed_cost l i k lim s in let g = c.greatest in omega (arith, ints)

pub costs_or_marks : (l : ListedCosts) → AreInLimits l → AreCostsOrMarks (cost_at l)
costs_or_marks l lim i k h = listed_cost l i k lim (listed_from_cost l i k h)

pub cost_number : (l : ListedCosts) (i k : ℕ) → AreInLimits l → cost_at l i k <ℤ UNLISTED → IsNumber l.m k
cost_number l i k lim h = object_within l.m (row_of l.rows i) k (within_row l i lim) (listed_from_cost l i k h)
