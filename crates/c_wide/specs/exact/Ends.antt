-- What the calls on exact doubles return and write.
use Rattle.std.specs.Prelude.{◌≡◌, ◌⊎◌, ◌++◌, ℕ, ℤ, pos, List, length, drop, map}
use lib.Ieee.{Float}
use Rattle.assign_core.specs.Assignment.{IsAssignment, IsBest}
use Rattle.assign_core.specs.Hall.{IsHallSet}
use Rattle.cost_lists.specs.ListedCosts.{ListedCosts}
use Rattle.exact_checker.specs.declared.verdict.Verdict.{Verdict}
use Rattle.exact_checker.specs.declared.verdict.Verdict.TheVariants.{Yes}
use Rattle.c_calls.specs.declared.fault.Fault.{Fault}
use Rattle.c_calls.specs.declared.lists.info.Info.{Info}
use Rattle.c_calls.specs.Codes.{fault_code, fault_place}
use Rattle.c_calls.specs.doubles.Input.{InputDoubles, rows_in}
use Rattle.c_calls.specs.lists.Checks.{verdict_code, with_verdict}
use Rattle.wide_checker.specs.declared.numbers.Wide.{Wide}
use Rattle.wide_checker.specs.WideNumbers.{wide_value}
use Rattle.wide_checker.specs.WideVerdicts.{IsWideVerdict}
use Rattle.c_wide.specs.Ends.{ShowsNoWide, ShowsWideBest, WideBuffers}
use Rattle.c_wide.specs.exact.Given.{HasExactFault, IsOfExact}

-- an optimal plan of the doubles; the prices and the sum count units
pub record ShowsExactBest (g : InputDoubles) (l : ListedCosts) (before after : WideBuffers) (code : ℤ) : Type 0 where
  pub in_units : ShowsWideBest l before after code
  pub best : IsBest l.sense (rows_in g) after.objects

-- a Hall set, at the beginning of two buffers: there is no plan
pub record ShowsExactHall (g : InputDoubles) (before after : WideBuffers) (code : ℤ) : Type 0 where
  pub some : List ℕ
  pub few : List ℕ
  pub is : code ≡ pos 1
  pub proof : IsHallSet (rows_in g) some few
  pub none : (xs : List ℕ) → ¬ IsAssignment (rows_in g) xs
  pub stays : after ≡ record before {
    persons = some ++ drop (length some) before.persons;
    objects = few ++ drop (length few) before.objects;
    info = record before.info { persons = length some; objects = length few };
  }

abbrev pub IsExactShown : InputDoubles → ListedCosts → WideBuffers → WideBuffers → ℤ → Type 0
IsExactShown g l before after code =
    ShowsExactBest g l before after code ⊎ (ShowsExactHall g before after code ⊎ ShowsNoWide before after code)

-- the first fault, with its code and its place
pub record IsExactRefused (g : InputDoubles) (before after : Info) (code : ℤ) : Type 0 where
  pub fault : Fault
  pub is : code ≡ fault_code fault
  pub first : HasExactFault g fault
  pub stays : after ≡ record before { place = fault_place before.place fault }

-- what a call returns and writes that solves a problem; the unit is written unless there is a fault
abbrev pub IsExactReported : InputDoubles → WideBuffers → WideBuffers → ℤ → ℤ → ℤ → Type 0
IsExactReported g before after unit new code =
    IsOfExact g new (λ l. IsExactShown g l before after code)
    ⊎ (IsExactRefused g before.info after.info code × (after ≡ record before { info = after.info }) × (new ≡ unit))

-- a plan that the prices prove is best in exact arithmetic
abbrev pub IsExactVerdict : InputDoubles → ListedCosts → List ℕ → List ℤ → Verdict → Type 0
IsExactVerdict g l xs prices verdict =
    IsWideVerdict l xs prices verdict × (verdict ≡ Yes → IsBest l.sense (rows_in g) xs)

-- the verdict on a plan and prices in units, with its code and what it names
pub record IsExactSeen (g : InputDoubles) (xs : List ℕ) (prices : List Wide) (before after : Info) (unit code : ℤ) : Type 0 where
  pub verdict : Verdict
  pub is : code ≡ verdict_code verdict
  pub names : after ≡ with_verdict verdict before
  pub holds : IsOfExact g unit (λ l. IsExactVerdict g l xs (map wide_value prices) verdict)

-- what a call returns and records that checks a plan
abbrev pub IsExactJudged : InputDoubles → List ℕ → List Wide → Info → Info → ℤ → ℤ → ℤ → Type 0
IsExactJudged g xs prices before after unit new code =
    IsExactSeen g xs prices before after new code ⊎ (IsExactRefused g before after code × (new ≡ unit))

-- a problem over doubles, and the lengths of buffers
abbrev pub exact_input : ℕ → ℕ → ℕ → List Float → List ℕ → List ℕ → InputDoubles
exact_input sense n m costs by_person by_object = record {
  sense = sense;
  n = n;
  m = m;
  by_person = by_person;
  by_object = by_object;
  costs = costs;
}
