-- What a call returns and writes that looks for a best plan with fewest changes.
use Rattle.std.specs.Prelude.{◌≡◌, ◌⊎◌, ◌++◌, ◌≤◌, [], ◌∷◌, ℕ, ℤ, pos, List, length, drop, map}
use Rattle.assign_core.specs.Assignment.{IsAssignment, total}
use Rattle.assign_core.specs.Hall.{IsHallSet}
use Rattle.cost_lists.specs.ListedCosts.{ListedCosts}
use Rattle.c_calls.specs.declared.fault.Fault.TheVariants.{Memory}
use Rattle.c_calls.specs.declared.lists.info.Info.{Info}
use Rattle.c_calls.specs.Codes.{fault_code, fault_place}
use Rattle.c_calls.specs.lists.Faults.{HasFault, IsFirstWithout, IsOfInput, IsWhole}
use Rattle.c_calls.specs.lists.Input.{InputLists, either}
use Rattle.wide_checker.specs.declared.numbers.Wide.{Wide}
use Rattle.wide_checker.specs.WideNumbers.{wide_value}
use Rattle.wide_checker.specs.WideOptimum.{IsWideOptimum}
use Rattle.c_wide.specs.declared.fewest.kept.Refusal.{Refusal}
use Rattle.c_wide.specs.declared.fewest.kept.Refusal.TheVariants.{Beyond, Given}
use Rattle.c_wide.specs.fewest.Changes.{HasFewestChanges, changes, combined_lists}
use Rattle.c_wide.specs.fewest.Combined.{AreKept}

-- the caller's buffers
pub record FewestBuffers : Type 0 where
  pub objects : List ℕ
  pub persons : List ℕ
  pub prices : List Wide
  pub changed : ℕ
  pub info : Info

abbrev pub fewest_buffers : List ℕ → List ℕ → List Wide → ℕ → Info → FewestBuffers
fewest_buffers objects persons prices changed info =
    record { objects = objects; persons = persons; prices = prices; changed = changed; info = info }

-- an optimal assignment that changes fewest persons; prices that prove it at combined costs; the sum
-- of its costs, and how many persons it changes
pub record ShowsFewest (l : ListedCosts) (kept : List ℕ) (before after : FewestBuffers) (code : ℤ) : Type 0 where
  pub is : code ≡ pos 0
  pub fewest : HasFewestChanges l kept after.objects
  pub proof : IsWideOptimum (combined_lists kept l) after.objects (map wide_value after.prices)
  pub sum : after.info ≡ record before.info { total = total l.rows after.objects }
  pub count : after.changed ≡ changes kept after.objects
  pub stays : after.persons ≡ before.persons

-- a Hall set, at the beginning of two buffers: there is no assignment
pub record ShowsFewestHall (l : ListedCosts) (before after : FewestBuffers) (code : ℤ) : Type 0 where
  pub some : List ℕ
  pub few : List ℕ
  pub is : code ≡ pos 1
  pub proof : IsHallSet l.rows some few
  pub none : (xs : List ℕ) → ¬ IsAssignment l.rows xs
  pub stays : after ≡ record before {
    persons = some ++ drop (length some) before.persons;
    objects = few ++ drop (length few) before.objects;
    info = record before.info { persons = length some; objects = length few };
  }

-- no claim
pub record ShowsNoFewest (before after : FewestBuffers) (code : ℤ) : Type 0 where
  pub is : code ≡ pos 23
  pub stays : after ≡ before

abbrev pub IsFewestShown : ListedCosts → List ℕ → FewestBuffers → FewestBuffers → ℤ → Type 0
IsFewestShown l kept before after code =
    ShowsFewest l kept before after code ⊎ (ShowsFewestHall l before after code ⊎ ShowsNoFewest before after code)

-- the first fault of the problem; or the first place of a kept object above m, in a problem without a
-- fault; memory is refused only where nothing else is wrong
abbrev pub HasRefusal : InputLists → List ℕ → Refusal → Type 0
HasRefusal g kept (Given fault) = HasFault g fault × (fault ≡ Memory → AreKept g.m kept)
HasRefusal g kept (Beyond k) = IsWhole g × IsFirstWithout (λ j. j ≤ g.m) kept k

abbrev pub refusal_code : Refusal → ℤ
refusal_code (Given fault) = fault_code fault
refusal_code (Beyond k) = pos 11

-- the record with the place of a fault
abbrev pub with_refusal : Refusal → Info → Info
with_refusal (Given fault) info = record info { place = fault_place info.place fault }
with_refusal (Beyond k) info = record info { place = k }

-- the refusal, with its code and what it names; all else stays
pub record IsFewestRefused (g : InputLists) (kept : List ℕ) (before after : FewestBuffers) (code : ℤ) : Type 0 where
  pub refusal : Refusal
  pub is : code ≡ refusal_code refusal
  pub first : HasRefusal g kept refusal
  pub stays : after ≡ record before { info = with_refusal refusal before.info }

-- what a call returns and writes
abbrev pub IsFewestReported : InputLists → List ℕ → FewestBuffers → FewestBuffers → ℤ → Type 0
IsFewestReported g kept before after code =
    IsOfInput g (λ l. AreKept g.m kept × IsFewestShown l kept before after code)
    ⊎ IsFewestRefused g kept before after code

-- a problem of either form, and the lengths of the kept objects and of the buffers
abbrev pub fewest_input : ℕ → ℕ → ℕ → List ℕ → List ℕ → List ℤ → List ℕ → FewestBuffers → InputLists
fewest_input sense n m persons objects costs kept room = record (either sense n m persons objects costs) {
  by_person = length kept ∷ length room.objects ∷ length room.persons ∷ [];
  by_object = length room.prices ∷ [];
}
