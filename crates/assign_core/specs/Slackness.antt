-- Epsilon-complementary slackness, and certificates.
use Rattle.std.specs.Prelude.{◌≡◌, ℕ, ℤ, pos, ◌+ℤ◌, ◌≤ℤ◌, List, length, All}
use Rattle.std.specs.List.{AllZip}
use Rattle.assign_core.specs.declared.sense.Sense.{Sense}
use Rattle.assign_core.specs.Rows.{Listing, listed_or_zero}
use Rattle.assign_core.specs.Assignment.{IsAssignment}
use Rattle.assign_core.specs.Benefits.{benefit_rows}
use Rattle.assign_core.specs.Prices.{price_of, IsPrice}

-- with benefits a and prices p, the value of object j is at least that of entry e, less eps:
-- a_j - p_j >= a_e - p_e - eps
abbrev pub IsWorth : ℤ → List ℤ → Listing → ℕ → ℕ × ℤ → Type 0
IsWorth eps prices row j e =
    (e.1 +ℤ price_of prices j) ≤ℤ (listed_or_zero row j +ℤ price_of prices e.0 +ℤ eps)

-- no object of a row of benefits has a value above that of object j by over eps
abbrev pub HasSlack : ℤ → List ℤ → Listing → ℕ → Type 0
HasSlack eps prices row j = All (IsWorth eps prices row j) row

-- each person has slackness eps with its object
abbrev pub AllSlack : ℤ → List ℤ → List Listing → List ℕ → Type 0
AllSlack eps prices rows xs = AllZip (HasSlack eps prices) rows xs

-- an assignment with prices that prove it optimal
pub record IsCertificate (sense : Sense) (rows : List Listing) (xs : List ℕ) (prices : List ℤ) : Type 0 where
  pub assigned : IsAssignment rows xs
  pub priced : length prices ≡ length rows
  pub in_range : All IsPrice prices
  pub slack : AllSlack (pos 1) prices (benefit_rows sense rows) xs
