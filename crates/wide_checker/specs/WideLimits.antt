-- The limits of rows whose costs have 128 bits.
use Rattle.std.specs.Prelude.{length, All}
use Rattle.assign_core.specs.Rows.{Listing, IsWithin}
use Rattle.cost_lists.specs.ListedCosts.{ListedCosts, IsCount}
use Rattle.wide_checker.specs.WideNumbers.{IsInCosts}

-- each cost of a row is at most the greatest cost in absolute value
abbrev pub HasWideCosts : Listing → Type 0
HasWideCosts row = All (λ e. IsInCosts e.1) row

-- there are few enough persons and objects; the rows list objects from 1 to m, at costs in range
pub record AreInWideLimits (l : ListedCosts) : Type 0 where
  pub persons : IsCount (length l.rows)
  pub objects : IsCount l.m
  pub within : All (IsWithin l.m) l.rows
  pub costs : All HasWideCosts l.rows
