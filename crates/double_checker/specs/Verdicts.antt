-- The meaning of each verdict on a plan, and on a Hall set, over costs in doubles.
use Rattle.std.specs.Prelude.{◌≡◌, ℕ, ℤ, ◌*◌, ◌<◌, List, [], ◌∷◌, length, map, true, false, All, IsTrue, unsigned_abs}
use lib.Ieee.{Float, nan}
use Rattle.assign_core.specs.declared.sense.Sense.{Sense}
use Rattle.assign_core.specs.Numbered.{numbered}
use Rattle.assign_core.specs.Rows.{Listing, IsListed, listed_or_zero, row_of}
use Rattle.assign_core.specs.Prices.{price_of}
use Rattle.assign_core.specs.Assignment.{AreListed, IsAssignment}
use Rattle.dual_checker.specs.Faults.{IsFirst, IsUnlisted, own_object}
use Rattle.double_costs.specs.Units.{is_number, units_of}
use Rattle.double_costs.specs.DoubleRows.{IsFirstFault, is_cost, rows_of_doubles}
use Rattle.double_costs.specs.Margins.{IsMarginOf}
use Rattle.double_costs.specs.Prices.{AreChoicesBy, IsPricedBest}
use Rattle.double_checker.specs.Far.{HasFar}
use Rattle.double_checker.specs.declared.verdict.Verdict.{Verdict}
use Rattle.double_checker.specs.declared.verdict.Verdict.TheVariants.{Length, Cost, Unlisted, Twice, Price, Undecided}
use Rattle.double_checker.specs.declared.verdict.Verdict.TheVariants.{Best}

-- n * m costs, an object for each of n persons, and a price for each of m objects
pub record AreLong (n m : ℕ) (costs : List Float) (xs : List ℕ) (prices : List Float) : Type 0 where
  pub costs_long : length costs ≡ n * m
  pub objects_long : length xs ≡ n
  pub prices_long : length prices ≡ m

-- each of them is a cost
abbrev pub AreCosts : Sense → List Float → Type 0
AreCosts sense costs = All (λ c. IsTrue (is_cost sense c)) costs

-- the lists are of these lengths, and hold costs
pub record AreDoubles (sense : Sense) (n m : ℕ) (costs : List Float) (xs : List ℕ) (prices : List Float) : Type 0 where
  pub long : AreLong n m costs xs prices
  pub costs_are : AreCosts sense costs

-- a person before person i has its object
abbrev pub IsGivenBefore : List ℕ → ℕ → Type 0
IsGivenBefore xs i = (h : ℕ) × (0 < h) × (h < i) × (own_object xs h ≡ own_object xs i)

-- the price of object j is infinite, or no number
abbrev pub IsNoPrice : List Float → ℕ → Type 0
IsNoPrice prices j = is_number (numbered prices j nan) ≡ false

-- an assignment over costs, and a finite price for each object
pub record IsWithPrices (sense : Sense) (n m : ℕ) (costs : List Float) (xs : List ℕ)
    (prices : List Float) : Type 0 where
  pub doubles : AreDoubles sense n m costs xs prices
  pub assigned : IsAssignment (rows_of_doubles m n costs) xs
  pub finite : All (λ p. IsTrue (is_number p)) prices

-- the prices in units of 2 ^ -1074
abbrev pub price_units : List Float → List ℤ
price_units prices = map units_of prices

-- the sizes of the numbers that a person compares: its own object's cost and price, and the cost and
-- the price of object k
abbrev pub compared : List Listing → List ℕ → List ℤ → ℕ → ℕ → List ℕ
compared rows xs prices i k =
    let j = own_object xs i in
    unsigned_abs (listed_or_zero (row_of rows i) j) ∷ unsigned_abs (price_of prices j)
    ∷ unsigned_abs (listed_or_zero (row_of rows i) k) ∷ unsigned_abs (price_of prices k) ∷ []

-- person i lists object k, and compares numbers that are far apart
pub record IsFarApart (rows : List Listing) (xs : List ℕ) (prices : List ℤ) (i k : ℕ) : Type 0 where
  pub listed : IsListed rows i k
  pub far : HasFar (compared rows xs prices i k)

-- each other object that a person lists is worse by more than a margin of the costs
pub record IsBestByMargin (sense : Sense) (margin : ℤ) (rows : List Listing) (costs : List Float) (xs : List ℕ)
    (prices : List ℤ) : Type 0 where
  pub enough : IsMarginOf margin costs
  pub worse : AreChoicesBy margin sense prices rows xs

-- the first fault in the order of the variants, by the lowest place or number that has it; at none
-- the plan is proved best by its prices, or it isn't decided, which comes only where the prices
-- don't prove it or where numbers are far apart
abbrev pub IsVerdict : Sense → ℕ → ℕ → List Float → List ℕ → List Float → Float → Verdict → Type 0
IsVerdict sense n m costs xs prices margin Length = ¬ AreLong n m costs xs prices
IsVerdict sense n m costs xs prices margin (Cost k) = AreLong n m costs xs prices × IsFirstFault sense costs k
IsVerdict sense n m costs xs prices margin (Unlisted i) =
    AreDoubles sense n m costs xs prices × IsFirst (IsUnlisted (rows_of_doubles m n costs) xs) n i
IsVerdict sense n m costs xs prices margin (Twice i) =
    AreDoubles sense n m costs xs prices × AreListed (rows_of_doubles m n costs) xs × IsFirst (IsGivenBefore xs) n i
IsVerdict sense n m costs xs prices margin (Price j) =
    AreDoubles sense n m costs xs prices × IsAssignment (rows_of_doubles m n costs) xs × IsFirst (IsNoPrice prices) m j
IsVerdict sense n m costs xs prices margin Undecided =
    let rows = rows_of_doubles m n costs in
    IsWithPrices sense n m costs xs prices
    × (IsPricedBest sense m rows xs (price_units prices) →
    (i : ℕ) × ((k : ℕ) × IsFarApart rows xs (price_units prices) i k))
IsVerdict sense n m costs xs prices margin (Best by_margin) =
    let rows = rows_of_doubles m n costs in
    IsWithPrices sense n m costs xs prices
    × IsPricedBest sense m rows xs (price_units prices)
    × (by_margin ≡ true → IsBestByMargin sense (units_of margin) rows costs xs (price_units prices))
