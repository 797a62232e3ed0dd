-- What a call returns and writes that asks which objects can change places.
use Rattle.std.specs.Prelude.{◌≡◌, ◌≢◌, ◌↔◌, ◌⊎◌, ℕ, ℤ, pos, List, [], ◌∷◌, length}
use Rattle.assign_core.specs.Numbered.{IsNumber}
use Rattle.assign_core.specs.Assignment.{IsBest}
use Rattle.cost_lists.specs.Exact.{IsOptimum}
use Rattle.cost_lists.specs.ListedCosts.{ListedCosts}
use Rattle.exact_checker.specs.Verdicts.{IsVerdict}
use Rattle.exact_checker.specs.declared.verdict.Verdict.{Verdict}
use Rattle.exact_checker.specs.declared.verdict.Verdict.TheVariants.{Yes}
use Rattle.group_checker.specs.Groups.{AreGroups, IsInGroup, MayHave}
use Rattle.c_calls.specs.declared.fault.Fault.{Fault}
use Rattle.c_calls.specs.declared.lists.info.Info.{Info}
use Rattle.c_calls.specs.lists.Checks.{verdict_code, with_verdict}
use Rattle.c_calls.specs.Codes.{fault_code, fault_place}
use Rattle.c_calls.specs.lists.Faults.{HasFault, IsOfInput}
use Rattle.c_calls.specs.lists.Input.{InputLists, either_form}

-- what a call writes
pub record GroupBuffers : Type 0 where
  pub groups : List ℕ
  pub info : Info

-- what a caller gives: a problem of either form, and a buffer with a number for each object
abbrev pub groups_input : ℕ → ℕ → ℕ → List ℕ → List ℕ → List ℤ → GroupBuffers → InputLists
groups_input sense n m of_persons of_objects costs buffers = record {
  form = either_form of_persons of_objects costs;
  sense = sense;
  n = n;
  m = m;
  by_person = [];
  by_object = length buffers.groups ∷ [];
  persons = of_persons;
  objects = of_objects;
  costs = costs;
  first = [];
}

-- the plan is best, and these are the groups of its objects: in some best plan a person has an
-- object exactly where that is as good for it as its own, and in the same group
pub record ShowsGroups (l : ListedCosts) (xs : List ℕ) (prices : List ℤ) (before after : GroupBuffers) (code : ℤ) : Type 0 where
  pub is : code ≡ pos 0
  pub proof : IsOptimum l xs prices
  pub best : IsBest l.sense l.rows xs
  pub groups : AreGroups l xs prices after.groups
  pub changes : (i j : ℕ) → IsNumber (length l.rows) i → MayHave l i j ↔ IsInGroup l xs prices after.groups i j
  pub stays : after ≡ record before { groups = after.groups }

-- the plan is best, and no more is claimed
pub record ShowsPlan (l : ListedCosts) (xs : List ℕ) (prices : List ℤ) (before after : GroupBuffers) (code : ℤ) : Type 0 where
  pub is : code ≡ pos 23
  pub proof : IsOptimum l xs prices
  pub best : IsBest l.sense l.rows xs
  pub stays : after ≡ before

-- the prices don't prove the plan: its verdict
pub record ShowsNoPlan (l : ListedCosts) (xs : List ℕ) (prices : List ℤ) (before after : GroupBuffers) (code : ℤ) : Type 0 where
  pub verdict : Verdict
  pub is : code ≡ verdict_code verdict
  pub not : verdict ≢ Yes
  pub holds : IsVerdict l xs prices verdict
  pub stays : after ≡ record before { info = with_verdict verdict before.info }

abbrev pub AreGroupsShown : ListedCosts → List ℕ → List ℤ → GroupBuffers → GroupBuffers → ℤ → Type 0
AreGroupsShown l xs prices before after code =
    ShowsGroups l xs prices before after code
    ⊎ (ShowsPlan l xs prices before after code ⊎ ShowsNoPlan l xs prices before after code)

-- the first fault, with its code and its place; the list stays
pub record AreGroupsRefused (g : InputLists) (before after : GroupBuffers) (code : ℤ) : Type 0 where
  pub fault : Fault
  pub is : code ≡ fault_code fault
  pub first : HasFault g fault
  pub stays : after ≡ record before { info = record before.info { place = fault_place before.info.place fault } }

-- what a call does that asks which objects can change places
abbrev pub JudgesGroups : InputLists → List ℕ → List ℤ → GroupBuffers → GroupBuffers → ℤ → Type 0
JudgesGroups g xs prices before after code =
    IsOfInput g (λ l. AreGroupsShown l xs prices before after code) ⊎ AreGroupsRefused g before after code
