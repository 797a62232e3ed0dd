-- What a call on a block over doubles returns and writes.
use Rattle.std.specs.Prelude.{◌≡◌, ◌≢◌, ◌⊎◌, ℕ, ℤ, pos, List, [], ◌∷◌, length, All, IsTrue, ◌==◌, ◌&&◌}
use lib.Ieee.{Float}
use Rattle.assign_core.specs.declared.sense.Sense.{Sense}
use Rattle.assign_core.specs.Rows.{Listing}
use Rattle.dual_checker.specs.Faults.{IsFirst}
use Rattle.cost_lists.specs.Blocks.{IsBounded}
use Rattle.exact_checker.specs.Under.{HasUnder, IsUnder}
use Rattle.double_costs.specs.Units.{is_number}
use Rattle.double_checker.specs.Verdicts.{price_units}
use Rattle.block_doubles.specs.Pairs.{AreLeastPairs, AreMarks, AreWritten, IsInfiniteIn, PairLists, numbers_in}
use Rattle.c_calls.specs.declared.fault.Fault.{Fault}
use Rattle.c_calls.specs.declared.fault.Fault.TheVariants.{Memory}
use Rattle.c_calls.specs.declared.doubles.info.DoublesInfo.{DoublesInfo}
use Rattle.c_calls.specs.Codes.{fault_code, fault_place}
use Rattle.c_calls.specs.doubles.Faults.{HasFault, IsFaultless, IsWhole}
use Rattle.c_calls.specs.doubles.Input.{InputDoubles, rows_in}
use Rattle.c_blocks.specs.Blocks.{one_length}

-- what a call reads next to the costs: own objects, the costs and prices whose sums are the row numbers, and the
-- price of each object
pub record Numbers : Type 0 where
  pub objects : List ℕ
  pub of_costs : List Float
  pub of_prices : List Float
  pub prices : List Float

-- what a call writes
pub record Shown : Type 0 where
  pub objects : List ℕ
  pub costs : List Float
  pub own : List ℕ
  pub better : PairLists
  pub info : DoublesInfo

abbrev pub shown_in : List ℕ → List Float → List ℕ → List ℕ → List ℕ → List Float → DoublesInfo → Shown
shown_in least_objects least_costs own persons objects costs info = record {
  objects = least_objects;
  costs = least_costs;
  own = own;
  better = record { persons = persons; objects = objects; costs = costs };
  info = info;
}

-- what a caller gives: costs row by row, as many own objects, numbers, least pairs and marks as persons, a price for
-- each object, and three lists of one length for better pairs
abbrev pub double_block : ℕ → ℕ → ℕ → List Float → Numbers → Shown → InputDoubles
double_block sense n m costs numbers shown = record {
  sense = sense;
  n = n;
  m = m;
  by_person =
      length numbers.objects ∷ length numbers.of_costs ∷ length numbers.of_prices ∷ length shown.objects
      ∷ length shown.costs ∷ length shown.own
      ∷ one_length ((length shown.better.objects == length shown.better.persons) && (length shown.better.costs == length shown.better.persons)) n ∷ [];
  by_object = length numbers.prices ∷ [];
  costs = costs;
}

-- each is finite
abbrev pub AreFinite : List Float → Type 0
AreFinite xs = All (λ x. IsTrue (is_number x)) xs

-- the row numbers bound all pairs, and none is written; or the first pair that is better is named
abbrev pub NamesPair : Sense → List Listing → ℕ → List ℤ → List ℤ → ℕ → DoublesInfo → DoublesInfo → ℤ → Type 0
NamesPair sense rows m prices numbers count before after code =
    (IsBounded sense rows prices numbers × (code ≡ pos 0) × (count ≡ 0) × (after ≡ record before { persons = count }))
    ⊎ ((i : ℕ) × (j : ℕ) × IsFirst (HasUnder sense rows prices numbers) (length rows) i
    × IsFirst (IsUnder sense rows prices numbers i) m j
    × (code ≡ pos 14) × (after ≡ record before { persons = count; person = i; object = j }))

-- least pairs, a mark for each person whose own pair is shown, the first better pair, and up to `most` of each
-- person; all in units of 2 ^ -1074
pub record AreShown (g : InputDoubles) (numbers : Numbers) (most : ℕ) (before after : Shown) (code : ℤ) : Type 0 where
  pub sense : Sense
  pub whole : IsWhole g sense
  pub prices_finite : AreFinite numbers.prices
  pub numbers_finite : AreFinite numbers.of_costs × AreFinite numbers.of_prices
  pub least : AreLeastPairs sense (rows_in g) (price_units numbers.prices) after.objects after.costs
  pub own : AreMarks sense (rows_in g) (price_units numbers.prices) numbers.objects
      (numbers_in sense numbers.of_costs numbers.of_prices) after.own
  pub count : ℕ
  pub better : AreWritten sense (rows_in g) (price_units numbers.prices) (numbers_in sense numbers.of_costs numbers.of_prices)
      most count before.better after.better
  pub named : NamesPair sense (rows_in g) g.m (price_units numbers.prices)
      (numbers_in sense numbers.of_costs numbers.of_prices) count before.info after.info code

-- the first fault of the problem, with its code and its place; the lists stay
pub record IsFaulty (g : InputDoubles) (before after : Shown) (code : ℤ) : Type 0 where
  pub fault : Fault
  pub not_memory : fault ≢ Memory
  pub is : code ≡ fault_code fault
  pub first : HasFault g fault
  pub stays : after ≡ record before { info = record before.info { place = fault_place before.info.place fault } }

-- else the first object whose price isn't finite; the lists stay
pub record HasNoPrice (g : InputDoubles) (numbers : Numbers) (before after : Shown) (code : ℤ) : Type 0 where
  pub whole : IsFaultless g
  pub object : ℕ
  pub first : IsFirst (IsInfiniteIn numbers.prices numbers.prices) g.m object
  pub is : code ≡ pos 13
  pub stays : after ≡ record before { info = record before.info { object = object } }

-- else the first person whose number isn't finite; the lists stay
pub record HasNoNumber (g : InputDoubles) (numbers : Numbers) (before after : Shown) (code : ℤ) : Type 0 where
  pub whole : IsFaultless g
  pub finite : AreFinite numbers.prices
  pub person : ℕ
  pub first : IsFirst (IsInfiniteIn numbers.of_costs numbers.of_prices) g.n person
  pub is : code ≡ pos 8
  pub stays : after ≡ record before { info = record before.info { person = person } }

-- else memory was refused; all stays
pub record HasNoMemory (g : InputDoubles) (numbers : Numbers) (before after : Shown) (code : ℤ) : Type 0 where
  pub whole : IsFaultless g
  pub prices_finite : AreFinite numbers.prices
  pub numbers_finite : AreFinite numbers.of_costs × AreFinite numbers.of_prices
  pub is : code ≡ pos 9
  pub stays : after ≡ before

-- what a call on a block over doubles does
abbrev pub JudgesDoubles : InputDoubles → Numbers → ℕ → Shown → Shown → ℤ → Type 0
JudgesDoubles g numbers most before after code =
    AreShown g numbers most before after code ⊎ IsFaulty g before after code ⊎ HasNoPrice g numbers before after code
    ⊎ HasNoNumber g numbers before after code ⊎ HasNoMemory g numbers before after code
