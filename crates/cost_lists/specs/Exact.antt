-- Exact prices: complementary slackness 0, in the unit of the costs.
use Rattle.std.specs.Prelude.{◌≡◌, ℕ, ℤ, pos, ◌+ℤ◌, ◌-ℤ◌, ◌≤ℤ◌, ◌⊎◌, List, Some, length, All, Contains}
use Rattle.std.specs.List.{AllZip}
use Rattle.assign_core.specs.declared.sense.Sense.{Sense}
use Rattle.assign_core.specs.declared.sense.Sense.TheVariants.{Min, Max}
use Rattle.assign_core.specs.Numbered.{IsNumber}
use Rattle.assign_core.specs.Rows.{Listing, listed_in, listed_or_zero}
use Rattle.assign_core.specs.Assignment.{IsAssignment, IsNoWorse}
use Rattle.assign_core.specs.Prices.{price_of}
use Rattle.cost_lists.specs.declared.numbers.TheConstants.{GREATEST_PRICE}
use Rattle.cost_lists.specs.ListedCosts.{ListedCosts}

-- from 0 to the greatest price
pub record IsPriceInLimits (p : ℤ) : Type 0 where
  pub least : pos 0 ≤ℤ p
  pub greatest : p ≤ℤ GREATEST_PRICE

-- object j at a cost, with its price: the sum under Min, the cost less the price under Max
abbrev pub with_price : Sense → List ℤ → ℕ → ℤ → ℤ
with_price Min prices j cost = cost +ℤ price_of prices j
with_price Max prices j cost = cost -ℤ price_of prices j

-- with prices, no object of a row is better than object j: it is a cheapest by cost plus price
-- under Min, a dearest by cost less price under Max
abbrev pub IsChoice : Sense → List ℤ → Listing → ℕ → Type 0
IsChoice sense prices row j =
    (k : ℕ) (c : ℤ) → listed_in row k ≡ Some c →
    IsNoWorse sense (with_price sense prices j (listed_or_zero row j)) (with_price sense prices k c)

-- each person's own object is a choice of its row
abbrev pub AreChoices : Sense → List ℤ → List Listing → List ℕ → Type 0
AreChoices sense prices rows xs = AllZip (IsChoice sense prices) rows xs

-- each of m objects is owned, or its price is 0
abbrev pub AreFree : ℕ → List ℤ → List ℕ → Type 0
AreFree m prices xs = (j : ℕ) → IsNumber m j → Contains xs j ⊎ (price_of prices j ≡ pos 0)

-- an assignment with exact prices: a price for each object, in range and 0 where nobody owns the
-- object, at which each person's own object is a choice
pub record IsOptimum (l : ListedCosts) (xs : List ℕ) (prices : List ℤ) : Type 0 where
  pub assigned : IsAssignment l.rows xs
  pub priced : length prices ≡ l.m
  pub in_range : All IsPriceInLimits prices
  pub choices : AreChoices l.sense prices l.rows xs
  pub free : AreFree l.m prices xs
