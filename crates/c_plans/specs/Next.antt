-- What a call returns and writes that asks for the next best plan.
use Rattle.std.specs.Prelude.{◌≡◌, ◌≢◌, ◌⊎◌, ℕ, ℤ, pos, List, [], ◌∷◌, length}
use Rattle.assign_core.specs.Assignment.{IsBest, total}
use Rattle.cost_lists.specs.Exact.{IsOptimum}
use Rattle.cost_lists.specs.ListedCosts.{ListedCosts}
use Rattle.exact_checker.specs.Verdicts.{IsVerdict}
use Rattle.exact_checker.specs.declared.verdict.Verdict.{Verdict}
use Rattle.exact_checker.specs.declared.verdict.Verdict.TheVariants.{Yes}
use Rattle.plan_checker.specs.Next.{IsNextBest, IsOnlyAssignment}
use Rattle.c_calls.specs.declared.fault.Fault.{Fault}
use Rattle.c_calls.specs.declared.lists.info.Info.{Info}
use Rattle.c_calls.specs.lists.Checks.{verdict_code, with_verdict}
use Rattle.c_calls.specs.Codes.{fault_code, fault_place}
use Rattle.c_calls.specs.lists.Faults.{HasFault, IsOfInput}
use Rattle.c_calls.specs.lists.Input.{InputLists, either_form}

-- what a call writes
pub record NextBuffers : Type 0 where
  pub other : List ℕ
  pub margin : ℤ
  pub info : Info

abbrev pub next_buffers : List ℕ → ℤ → Info → NextBuffers
next_buffers other margin info = record { other = other; margin = margin; info = info }

-- what a caller gives: a problem of either form, and a buffer with an object for each person
abbrev pub next_input : ℕ → ℕ → ℕ → List ℕ → List ℕ → List ℤ → NextBuffers → InputLists
next_input sense n m of_persons of_objects costs buffers = record {
  form = either_form of_persons of_objects costs;
  sense = sense;
  n = n;
  m = m;
  by_person = length buffers.other ∷ [];
  by_object = [];
  persons = of_persons;
  objects = of_objects;
  costs = costs;
  first = [];
}

-- the plan is best, and another one, of this cost, is a next best one, which costs so much more
pub record ShowsNext (l : ListedCosts) (xs : List ℕ) (prices : List ℤ) (before after : NextBuffers) (code : ℤ) : Type 0 where
  pub is : code ≡ pos 0
  pub proof : IsOptimum l xs prices
  pub next : IsNextBest l.sense l.rows xs after.other after.margin
  pub cost : after.info.total ≡ total l.rows after.other
  pub stays : after ≡ record before {
    other = after.other;
    margin = after.margin;
    info = record before.info { total = after.info.total };
  }

-- there is no other plan
pub record ShowsAlone (l : ListedCosts) (xs : List ℕ) (prices : List ℤ) (before after : NextBuffers) (code : ℤ) : Type 0 where
  pub is : code ≡ pos 25
  pub proof : IsOptimum l xs prices
  pub alone : IsOnlyAssignment l.rows xs
  pub stays : after ≡ before

-- the plan is best, and no more is claimed
pub record ShowsNoNext (l : ListedCosts) (xs : List ℕ) (prices : List ℤ) (before after : NextBuffers) (code : ℤ) : Type 0 where
  pub is : code ≡ pos 23
  pub proof : IsOptimum l xs prices
  pub best : IsBest l.sense l.rows xs
  pub stays : after ≡ before

-- the prices don't prove the plan: its verdict
pub record ShowsNoPlan (l : ListedCosts) (xs : List ℕ) (prices : List ℤ) (before after : NextBuffers) (code : ℤ) : Type 0 where
  pub verdict : Verdict
  pub is : code ≡ verdict_code verdict
  pub not : verdict ≢ Yes
  pub holds : IsVerdict l xs prices verdict
  pub stays : after ≡ record before { info = with_verdict verdict before.info }

abbrev pub IsNextShown : ListedCosts → List ℕ → List ℤ → NextBuffers → NextBuffers → ℤ → Type 0
IsNextShown l xs prices before after code =
    ShowsNext l xs prices before after code ⊎ (ShowsAlone l xs prices before after code
    ⊎ (ShowsNoNext l xs prices before after code ⊎ ShowsNoPlan l xs prices before after code))

-- the first fault, with its code and its place; all else stays
pub record IsNextRefused (g : InputLists) (before after : NextBuffers) (code : ℤ) : Type 0 where
  pub fault : Fault
  pub is : code ≡ fault_code fault
  pub first : HasFault g fault
  pub stays : after ≡ record before { info = record before.info { place = fault_place before.info.place fault } }

-- what a call does that asks for the next best plan
abbrev pub JudgesNext : InputLists → List ℕ → List ℤ → NextBuffers → NextBuffers → ℤ → Type 0
JudgesNext g xs prices before after code =
    IsOfInput g (λ l. IsNextShown l xs prices before after code) ⊎ IsNextRefused g before after code
