-- What a call returns and writes that arc scans for a plan whose worst pair is as good as possible.
use Rattle.std.specs.Prelude.{◌≡◌, ◌≢◌, ◌⊎◌, ℕ, ℤ, pos, List, [], ◌∷◌, length, drop, ◌++◌}
use Rattle.assign_core.specs.Assignment.{IsAssignment}
use Rattle.assign_core.specs.Hall.{IsHallSet}
use Rattle.cost_lists.specs.ListedCosts.{ListedCosts}
use Rattle.bottleneck_checker.specs.Bottleneck.{IsBottleneck, IsShown}
use Rattle.c_calls.specs.declared.fault.Fault.{Fault}
use Rattle.c_calls.specs.declared.lists.info.Info.{Info}
use Rattle.c_calls.specs.Codes.{fault_code, fault_place}
use Rattle.c_calls.specs.lists.Faults.{HasFault, IsOfInput}
use Rattle.c_calls.specs.lists.Input.{InputLists, either_form}

-- what a call writes, apart from its record
pub record Buffers : Type 0 where
  pub objects : List ℕ
  pub persons : List ℕ
  pub few : List ℕ
  pub info : Info

abbrev pub buffers : List ℕ → List ℕ → List ℕ → Info → Buffers
buffers objects persons few info = record { objects = objects; persons = persons; few = few; info = info }

-- what a caller gives: a problem of either form, and three buffers with a number for each person
abbrev pub bottleneck_input : ℕ → ℕ → ℕ → List ℕ → List ℕ → List ℤ → Buffers → InputLists
bottleneck_input sense n m of_persons of_objects costs room = record {
  form = either_form of_persons of_objects costs;
  sense = sense;
  n = n;
  m = m;
  by_person = length room.objects ∷ length room.persons ∷ length room.few ∷ [];
  by_object = [];
  persons = of_persons;
  objects = of_objects;
  costs = costs;
  first = [];
}

-- a plan whose worst pair, of this cost, is as good as possible: at better costs some persons list only a
-- few objects, fewer than they are
pub record HoldsBottleneck (l : ListedCosts) (before after : Buffers) (code : ℤ) : Type 0 where
  pub is : code ≡ pos 0
  pub some : List ℕ
  pub short : List ℕ
  pub proof : IsShown l after.objects after.info.total some short
  pub bottleneck : IsBottleneck l.sense l.rows after.objects after.info.total
  pub persons : after.persons ≡ some ++ drop (length some) before.persons
  pub few : after.few ≡ short ++ drop (length short) before.few
  pub info : after.info ≡ record before.info { total = after.info.total; persons = length some; objects = length short }

-- persons who list only a few objects, fewer than they are: there is no plan
pub record HoldsHallSet (l : ListedCosts) (before after : Buffers) (code : ℤ) : Type 0 where
  pub is : code ≡ pos 1
  pub some : List ℕ
  pub short : List ℕ
  pub proof : IsHallSet l.rows some short
  pub none : (xs : List ℕ) → ¬ IsAssignment l.rows xs
  pub persons : after.persons ≡ some ++ drop (length some) before.persons
  pub few : after.few ≡ short ++ drop (length short) before.few
  pub info : after.info ≡ record before.info { persons = length some; objects = length short }
  pub objects : after.objects ≡ before.objects

-- the budget is spent: objects from which the search goes on
pub record HoldsStart (budget : ℕ) (before after : Buffers) (code : ℤ) : Type 0 where
  pub is : code ≡ pos 21
  pub limited : budget ≢ 0
  pub objects : length after.objects ≡ length before.objects
  pub stays : after ≡ record before { objects = after.objects }

-- no claim
pub record HoldsNothing (before after : Buffers) (code : ℤ) : Type 0 where
  pub is : code ≡ pos 23
  pub stays : after ≡ before

abbrev pub HoldsAnswer : ListedCosts → ℕ → Buffers → Buffers → ℤ → Type 0
HoldsAnswer l budget before after code =
    HoldsBottleneck l before after code ⊎ (HoldsHallSet l before after code ⊎ (HoldsStart budget before after code ⊎ HoldsNothing before after code))

-- the first fault, with its code and its place; the lists stay
pub record IsRefused (g : InputLists) (before after : Buffers) (code : ℤ) : Type 0 where
  pub fault : Fault
  pub is : code ≡ fault_code fault
  pub first : HasFault g fault
  pub stays : after ≡ record before { info = record before.info { place = fault_place before.info.place fault } }

-- what a call does that arc scans for a plan whose worst pair is as good as possible
abbrev pub FindsBottleneck : InputLists → ℕ → Buffers → Buffers → ℤ → Type 0
FindsBottleneck g budget before after code = IsOfInput g (λ l. HoldsAnswer l budget before after code) ⊎ IsRefused g before after code
