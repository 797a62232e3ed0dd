-- The meaning of each verdict on two lists, one of objects and one of prices.
use Rattle.std.specs.Prelude.{◌≡◌, ℕ, ℤ, List, length, All}
use Rattle.assign_core.specs.Assignment.{AreListed, IsAssignment}
use Rattle.dual_checker.specs.Faults.{IsFirst, AreLong, IsGivenTwice, IsUnlisted}
use Rattle.cost_lists.specs.ListedCosts.{ListedCosts}
use Rattle.cost_lists.specs.Exact.{AreChoices, IsOptimum, IsPriceInLimits}
use Rattle.exact_checker.specs.declared.verdict.Verdict.{Verdict}
use Rattle.exact_checker.specs.declared.verdict.Verdict.TheVariants.{Length, Unlisted, Twice, PriceRange, Slack, Overpriced, Yes}
use Rattle.exact_checker.specs.Faults.{IsBetterFor, IsOutOfRange, IsPricedUnowned, IsShort}

-- an assignment with prices in a range, an object for each person and a price for each object
pub record IsPriced (InRange : ℤ → Type 0) (l : ListedCosts) (xs : List ℕ) (prices : List ℤ) : Type 0 where
  pub long : AreLong l.m l.rows xs prices
  pub assigned : IsAssignment l.rows xs
  pub in_range : All InRange prices

-- the first fault in the order of the variants, by the lowest number that has it, or Yes if there is
-- none; the range of prices, and what Yes means, are given
abbrev pub IsVerdictIn : (ℤ → Type 0) → (ListedCosts → List ℕ → List ℤ → Type 0) → ListedCosts → List ℕ → List ℤ → Verdict → Type 0
IsVerdictIn InRange IsRight l xs prices Length = ¬ AreLong l.m l.rows xs prices
IsVerdictIn InRange IsRight l xs prices (Unlisted i) = AreLong l.m l.rows xs prices × IsFirst (IsUnlisted l.rows xs) (length l.rows) i
IsVerdictIn InRange IsRight l xs prices (Twice j) = AreLong l.m l.rows xs prices × AreListed l.rows xs × IsFirst (IsGivenTwice xs) l.m j
IsVerdictIn InRange IsRight l xs prices (PriceRange j) =
    AreLong l.m l.rows xs prices × IsAssignment l.rows xs × IsFirst (IsOutOfRange InRange prices) l.m j
IsVerdictIn InRange IsRight l xs prices (Slack i k) =
    IsPriced InRange l xs prices × IsFirst (IsShort l xs prices) (length l.rows) i × IsFirst (IsBetterFor l xs prices i) l.m k
IsVerdictIn InRange IsRight l xs prices (Overpriced j) =
    IsPriced InRange l xs prices × AreChoices l.sense prices l.rows xs × IsFirst (IsPricedUnowned xs prices) l.m j
IsVerdictIn InRange IsRight l xs prices Yes = IsRight l xs prices

abbrev pub IsVerdict : ListedCosts → List ℕ → List ℤ → Verdict → Type 0
IsVerdict l xs prices v = IsVerdictIn IsPriceInLimits IsOptimum l xs prices v

-- at most one verdict holds of costs and two lists
abbrev pub VerdictsDiffer : Type 0
VerdictsDiffer = (l : ListedCosts) (xs : List ℕ) (prices : List ℤ) (v w : Verdict) →
    IsVerdict l xs prices v → IsVerdict l xs prices w → v ≡ w
