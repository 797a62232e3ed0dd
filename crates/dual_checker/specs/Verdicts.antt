-- The meaning of each verdict on two lists, one of objects and one of prices.
use Rattle.std.specs.Prelude.{◌≡◌, ℕ, ℤ, pos, List, length, map, All}
use Rattle.assign_core.specs.declared.sense.Sense.{Sense}
use Rattle.assign_core.specs.Rows.{Listing}
use Rattle.assign_core.specs.Assignment.{AreListed, IsAssignment}
use Rattle.assign_core.specs.Benefits.{benefit_row}
use Rattle.assign_core.specs.Prices.{IsPrice}
use Rattle.assign_core.specs.Slackness.{AllSlack, IsCertificate}
use Rattle.dual_checker.specs.declared.verdict.Verdict.{Verdict}
use Rattle.dual_checker.specs.declared.verdict.Verdict.TheVariants.{Length, Unlisted, Twice, PriceRange, Slack, Yes}
use Rattle.dual_checker.specs.Faults.{IsFirst, AreLong, IsUnlisted, IsGivenTwice, IsOutOfRange, BreaksSlackOf, IsShort}

-- an assignment among m objects, and prices in range at which each person has slackness 1
pub record IsSlackAssignment (sense : Sense) (m : ℕ) (rows : List Listing) (xs : List ℕ) (prices : List ℤ) : Type 0 where
  pub assigned : IsAssignment rows xs
  pub priced : length prices ≡ m
  pub in_range : All IsPrice prices
  pub slack : AllSlack (pos 1) prices (map (benefit_row sense m) rows) xs

-- among m objects, the first fault in the order of the variants, by the lowest number that has it,
-- or Yes if there is none of these
abbrev pub IsFault : Sense → ℕ → List Listing → List ℕ → List ℤ → Verdict → Type 0
IsFault sense m rows xs prices Length = ¬ AreLong m rows xs prices
IsFault sense m rows xs prices (Unlisted i) = AreLong m rows xs prices × IsFirst (IsUnlisted rows xs) (length rows) i
IsFault sense m rows xs prices (Twice j) = AreLong m rows xs prices × AreListed rows xs × IsFirst (IsGivenTwice xs) m j
IsFault sense m rows xs prices (PriceRange j) = AreLong m rows xs prices × IsAssignment rows xs × IsFirst (IsOutOfRange prices) m j
IsFault sense m rows xs prices (Slack i k) =
    AreLong m rows xs prices × IsAssignment rows xs × All IsPrice prices
    × IsFirst (IsShort sense m rows xs prices) (length rows) i × IsFirst (BreaksSlackOf sense m rows xs prices i) m k
IsFault sense m rows xs prices Yes = IsSlackAssignment sense m rows xs prices

-- among as many objects as persons: the first fault, or Yes if the lists are a certificate
abbrev pub IsVerdict : Sense → List Listing → List ℕ → List ℤ → Verdict → Type 0
IsVerdict sense rows xs prices Yes = IsCertificate sense rows xs prices
IsVerdict sense rows xs prices fault = IsFault sense (length rows) rows xs prices fault

-- at most one verdict holds of a problem, a sense and two lists
abbrev pub VerdictsDiffer : Type 0
VerdictsDiffer = (sense : Sense) (rows : List Listing) (xs : List ℕ) (prices : List ℤ) (v w : Verdict) →
    IsVerdict sense rows xs prices v → IsVerdict sense rows xs prices w → v ≡ w
