-- What a call on a block returns and writes.
use Rattle.std.specs.Prelude.{◌≡◌, ◌⊎◌, ℕ, zero, suc, ℤ, pos, Bool, true, false, List, [], ◌∷◌, length, ◌==◌, ◌&&◌}
use Rattle.dual_checker.specs.Faults.{IsFirst}
use Rattle.cost_lists.specs.Blocks.{IsBounded}
use Rattle.cost_lists.specs.ListedCosts.{ListedCosts}
use Rattle.exact_checker.specs.Under.{HasUnder, IsUnder}
use Rattle.c_calls.specs.declared.fault.Fault.{Fault}
use Rattle.c_calls.specs.declared.lists.info.Info.{Info}
use Rattle.c_calls.specs.Codes.{fault_code, fault_place}
use Rattle.c_calls.specs.lists.Faults.{HasFault, IsOfInput}
use Rattle.c_calls.specs.lists.Input.{InputLists, either_form}
use Rattle.block_checker.specs.Pairs.{AreWritten, PairLists}
use Rattle.block_checker.specs.Sums.{AreLeastSums, AreMarks}

-- n if lists have one length, and another number if they haven't
abbrev pub one_length : Bool → ℕ → ℕ
one_length true n = n
one_length false zero = 1
one_length false (suc n) = 0

-- what a call writes
pub record BlockBuffers : Type 0 where
  pub least : List ℤ
  pub own : List ℕ
  pub better : PairLists
  pub info : Info

abbrev pub buffers : List ℤ → List ℕ → List ℕ → List ℕ → List ℤ → Info → BlockBuffers
buffers least own persons objects costs info = record {
  least = least;
  own = own;
  better = record { persons = persons; objects = objects; costs = costs };
  info = info;
}

-- what a caller gives: a problem of either form, as many own objects, row numbers, least sums and marks as
-- persons, a price for each object, and three lists of one length for better pairs
abbrev pub block_input : ℕ → ℕ → ℕ → List ℕ → List ℕ → List ℤ → List ℕ → List ℤ → List ℤ → BlockBuffers → InputLists
block_input sense n m of_persons of_objects costs objects numbers prices buffers = record {
  form = either_form of_persons of_objects costs;
  sense = sense;
  n = n;
  m = m;
  by_person =
      length objects ∷ length numbers ∷ length buffers.least ∷ length buffers.own
      ∷ one_length ((length buffers.better.objects == length buffers.better.persons) && (length buffers.better.costs == length buffers.better.persons)) n ∷ [];
  by_object = length prices ∷ [];
  persons = of_persons;
  objects = of_objects;
  costs = costs;
  first = prices;
}

-- the row numbers bound all pairs; or the first pair that is better is named
abbrev pub IsNamed : ListedCosts → List ℤ → List ℤ → ℕ → Info → Info → ℤ → Type 0
IsNamed l prices numbers count before after code =
    (IsBounded l.sense l.rows prices numbers × (code ≡ pos 0) × (after ≡ record before { persons = count }))
    ⊎ ((i : ℕ) × (j : ℕ) × IsFirst (HasUnder l.sense l.rows prices numbers) (length l.rows) i
    × IsFirst (IsUnder l.sense l.rows prices numbers i) l.m j
    × (code ≡ pos 14) × (after ≡ record before { persons = count; person = i; object = j }))

-- the least sums, a mark for each person whose own pair is shown, and better pairs
pub record IsBlockShown (l : ListedCosts) (objects : List ℕ) (numbers prices : List ℤ) (before after : BlockBuffers) (code : ℤ) : Type 0 where
  pub least : AreLeastSums l.sense l.rows prices after.least
  pub own : AreMarks l objects prices numbers after.own
  pub count : ℕ
  pub better : AreWritten l prices numbers count before.better after.better
  pub named : IsNamed l prices numbers count before.info after.info code

-- the first fault, with its code and its place; the lists stay
pub record IsBlockRefused (g : InputLists) (before after : BlockBuffers) (code : ℤ) : Type 0 where
  pub fault : Fault
  pub is : code ≡ fault_code fault
  pub first : HasFault g fault
  pub stays : after ≡ record before { info = record before.info { place = fault_place before.info.place fault } }

-- what a call on a block does
abbrev pub JudgesBlock : InputLists → List ℕ → List ℤ → BlockBuffers → BlockBuffers → ℤ → Type 0
JudgesBlock g objects numbers before after code =
    IsOfInput g (λ l. IsBlockShown l objects numbers g.first before after code) ⊎ IsBlockRefused g before after code
