-- What the checking call returns and records.
use Rattle.std.specs.Prelude.{◌≡◌, ℕ, ℤ, pos, List, [], ◌∷◌, Some, true, length}
use lib.Ieee.{Float}
use Rattle.assign_core.specs.Assignment.{IsBest}
use Rattle.assign_core.specs.declared.sense.Sense.{Sense}
use Rattle.double_costs.specs.Prices.{IsOnlyBest}
use Rattle.double_checker.specs.Verdicts.{IsVerdict}
use Rattle.double_checker.specs.declared.verdict.Verdict.{Verdict}
use Rattle.double_checker.specs.declared.verdict.Verdict.TheVariants.{Length, Cost, Unlisted, Twice, Price, Undecided, Best}
use Rattle.c_calls.specs.declared.fault.Fault.{Fault}
use Rattle.c_calls.specs.declared.doubles.info.DoublesInfo.{DoublesInfo}
use Rattle.c_calls.specs.Codes.{fault_code, fault_place}
use Rattle.c_calls.specs.doubles.Ends.{flag}
use Rattle.c_calls.specs.doubles.Faults.{HasFault, HasShape}
use Rattle.c_calls.specs.Sizes.{sense_of}
use Rattle.c_calls.specs.doubles.Input.{InputDoubles, rows_in}

-- the code of a verdict
abbrev pub verdict_code : Verdict → ℤ
verdict_code Length = pos 4
verdict_code (Cost k) = pos 7
verdict_code (Unlisted i) = pos 11
verdict_code (Twice i) = pos 12
verdict_code (Price j) = pos 13
verdict_code Undecided = pos 23
verdict_code (Best by_margin) = pos 0

-- the record with what a verdict names
abbrev pub with_verdict : Verdict → DoublesInfo → DoublesInfo
with_verdict Length info = info
with_verdict (Cost k) info = record info { place = k }
with_verdict (Unlisted i) info = record info { person = i }
with_verdict (Twice i) info = record info { person = i }
with_verdict (Price j) info = record info { object = j }
with_verdict Undecided info = info
with_verdict (Best by_margin) info = record info { by_margin = flag by_margin }

-- what holds at each verdict: at the best the plan is optimal, and by a margin no other is as good
abbrev pub IsProved : InputDoubles → Sense → List ℕ → Verdict → Type 0
IsProved g sense objects Length = Unit {0}
IsProved g sense objects (Cost k) = Unit {0}
IsProved g sense objects (Unlisted i) = Unit {0}
IsProved g sense objects (Twice i) = Unit {0}
IsProved g sense objects (Price j) = Unit {0}
IsProved g sense objects Undecided = Unit {0}
IsProved g sense objects (Best by_margin) =
    IsBest sense (rows_in g) objects × (by_margin ≡ true → IsOnlyBest sense (rows_in g) objects)

-- the verdict on a plan and prices
pub record IsOfInput (g : InputDoubles) (objects : List ℕ) (prices : List Float) (verdict : Verdict) : Type 0 where
  pub sense : Sense
  pub wanted : sense_of g.sense ≡ Some sense
  pub shape : HasShape g
  pub margin : Float
  pub is : IsVerdict sense g.n g.m g.costs objects prices margin verdict
  pub proved : IsProved g sense objects verdict

-- the verdict on a plan and prices, with its code and what it names
pub record IsJudged (g : InputDoubles) (objects : List ℕ) (prices : List Float) (before after : DoublesInfo) (code : ℤ) : Type 0 where
  pub verdict : Verdict
  pub is : code ≡ verdict_code verdict
  pub names : after ≡ with_verdict verdict before
  pub holds : IsOfInput g objects prices verdict

-- the first fault, with its code and its place
pub record IsRefused (g : InputDoubles) (before after : DoublesInfo) (code : ℤ) : Type 0 where
  pub fault : Fault
  pub is : code ≡ fault_code fault
  pub first : HasFault g fault
  pub place : after ≡ record before { place = fault_place before.place fault }

-- a problem with the lengths of a plan and prices
abbrev pub with_answer : ℕ → ℕ → ℕ → List Float → List ℕ → List Float → InputDoubles
with_answer sense n m costs objects prices = record {
  sense = sense;
  n = n;
  m = m;
  by_person = length objects ∷ [];
  by_object = length prices ∷ [];
  costs = costs;
}
