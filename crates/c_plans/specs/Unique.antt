-- What a call returns and writes that asks whether a plan is the only best one.
use Rattle.std.specs.Prelude.{◌≡◌, ◌≢◌, ◌⊎◌, ℕ, ℤ, pos, true, List, [], ◌∷◌, length}
use Rattle.assign_core.specs.Assignment.{IsBest}
use Rattle.cost_lists.specs.Exact.{IsOptimum}
use Rattle.cost_lists.specs.ListedCosts.{ListedCosts}
use Rattle.exact_checker.specs.Verdicts.{IsVerdict}
use Rattle.exact_checker.specs.declared.verdict.Verdict.{Verdict}
use Rattle.exact_checker.specs.declared.verdict.Verdict.TheVariants.{Yes}
use Rattle.plan_checker.specs.Only.{IsOnlyBest}
use Rattle.plan_checker.specs.Ranks.{AreRanked}
use Rattle.c_calls.specs.declared.fault.Fault.{Fault}
use Rattle.c_calls.specs.declared.lists.info.Info.{Info}
use Rattle.c_calls.specs.lists.Checks.{verdict_code, with_verdict}
use Rattle.c_calls.specs.Codes.{fault_code, fault_place}
use Rattle.c_calls.specs.lists.Faults.{HasFault, IsOfInput}
use Rattle.c_calls.specs.lists.Input.{InputLists, either_form}

-- what a call writes
pub record UniqueBuffers : Type 0 where
  pub other : List ℕ
  pub ranks : List ℤ
  pub info : Info

-- what a caller gives: a problem of either form, a buffer with an object for each person, and one
-- with a rank for each object
abbrev pub unique_input : ℕ → ℕ → ℕ → List ℕ → List ℕ → List ℤ → UniqueBuffers → InputLists
unique_input sense n m of_persons of_objects costs buffers = record {
  form = either_form of_persons of_objects costs;
  sense = sense;
  n = n;
  m = m;
  by_person = length buffers.other ∷ [];
  by_object = length buffers.ranks ∷ [];
  persons = of_persons;
  objects = of_objects;
  costs = costs;
  first = [];
}

-- the plan is the only best one, as its prices and the ranks show
pub record ShowsOnly (l : ListedCosts) (xs : List ℕ) (prices : List ℤ) (before after : UniqueBuffers) (code : ℤ) : Type 0 where
  pub is : code ≡ pos 0
  pub proof : IsOptimum l xs prices
  pub ranked : AreRanked true (pos 1) l xs prices after.ranks 0 []
  pub only : IsOnlyBest l.sense l.rows xs
  pub stays : after ≡ record before { ranks = after.ranks }

-- both the plan and another one are best, as the same prices show
pub record ShowsOther (l : ListedCosts) (xs : List ℕ) (prices : List ℤ) (before after : UniqueBuffers) (code : ℤ) : Type 0 where
  pub is : code ≡ pos 24
  pub proof : IsOptimum l xs prices
  pub best : IsBest l.sense l.rows xs
  pub other_proof : IsOptimum l after.other prices
  pub other_best : IsBest l.sense l.rows after.other
  pub other : after.other ≢ xs
  pub stays : after ≡ record before { other = after.other }

-- the plan is best, and no more is claimed
pub record ShowsBest (l : ListedCosts) (xs : List ℕ) (prices : List ℤ) (before after : UniqueBuffers) (code : ℤ) : Type 0 where
  pub is : code ≡ pos 23
  pub proof : IsOptimum l xs prices
  pub best : IsBest l.sense l.rows xs
  pub stays : after ≡ before

-- the prices don't prove the plan: its verdict
pub record ShowsNoProof (l : ListedCosts) (xs : List ℕ) (prices : List ℤ) (before after : UniqueBuffers) (code : ℤ) : Type 0 where
  pub verdict : Verdict
  pub is : code ≡ verdict_code verdict
  pub not : verdict ≢ Yes
  pub holds : IsVerdict l xs prices verdict
  pub stays : after ≡ record before { info = with_verdict verdict before.info }

abbrev pub IsUniqueShown : ListedCosts → List ℕ → List ℤ → UniqueBuffers → UniqueBuffers → ℤ → Type 0
IsUniqueShown l xs prices before after code =
    ShowsOnly l xs prices before after code ⊎ (ShowsOther l xs prices before after code
    ⊎ (ShowsBest l xs prices before after code ⊎ ShowsNoProof l xs prices before after code))

-- the first fault, with its code and its place; the lists stay
pub record IsUniqueRefused (g : InputLists) (before after : UniqueBuffers) (code : ℤ) : Type 0 where
  pub fault : Fault
  pub is : code ≡ fault_code fault
  pub first : HasFault g fault
  pub stays : after ≡ record before { info = record before.info { place = fault_place before.info.place fault } }

-- what a call does that asks whether a plan is the only best one
abbrev pub JudgesUnique : InputLists → List ℕ → List ℤ → UniqueBuffers → UniqueBuffers → ℤ → Type 0
JudgesUnique g xs prices before after code =
    IsOfInput g (λ l. IsUniqueShown l xs prices before after code) ⊎ IsUniqueRefused g before after code
