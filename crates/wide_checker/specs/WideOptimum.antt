-- Assignments with exact prices in the wide limits.
use Rattle.std.specs.Prelude.{◌≡◌, ℕ, ℤ, List, length, All}
use Rattle.assign_core.specs.Assignment.{IsAssignment}
use Rattle.cost_lists.specs.ListedCosts.{ListedCosts}
use Rattle.cost_lists.specs.Exact.{AreChoices, AreFree}
use Rattle.wide_checker.specs.WideNumbers.{IsInPrices}

-- an assignment with exact prices: a price for each object, in range and 0 where nobody owns the
-- object, at which each person's own object is a choice
pub record IsWideOptimum (l : ListedCosts) (xs : List ℕ) (prices : List ℤ) : Type 0 where
  pub assigned : IsAssignment l.rows xs
  pub priced : length prices ≡ l.m
  pub in_range : All IsInPrices prices
  pub choices : AreChoices l.sense prices l.rows xs
  pub free : AreFree l.m prices xs
