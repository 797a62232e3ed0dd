-- What a checking call returns and records.
use Rattle.std.specs.Prelude.{◌≡◌, ℕ, ℤ, pos, List}
use Rattle.exact_checker.specs.declared.hall_verdict.HallVerdict.{HallVerdict}
use Rattle.exact_checker.specs.declared.hall_verdict.HallVerdict.TheVariants as hall
use Rattle.exact_checker.specs.declared.verdict.Verdict.{Verdict}
use Rattle.exact_checker.specs.declared.verdict.Verdict.TheVariants as verdict
use Rattle.exact_checker.specs.HallVerdicts.{IsHallVerdict}
use Rattle.exact_checker.specs.Verdicts.{IsVerdict}
use Rattle.c_calls.specs.declared.fault.Fault.{Fault}
use Rattle.c_calls.specs.declared.lists.info.Info.{Info}
use Rattle.c_calls.specs.Codes.{fault_code, fault_place}
use Rattle.c_calls.specs.lists.Faults.{HasFault, IsOfInput}
use Rattle.c_calls.specs.lists.Input.{InputLists}

-- the code of a verdict on an assignment and prices
abbrev pub verdict_code : Verdict → ℤ
verdict_code verdict.Yes = pos 0
verdict_code verdict.Length = pos 10
verdict_code (verdict.Unlisted i) = pos 11
verdict_code (verdict.Twice j) = pos 12
verdict_code (verdict.PriceRange j) = pos 13
verdict_code (verdict.Slack i j) = pos 14
verdict_code (verdict.Overpriced j) = pos 20

-- the record with the person and the object that a verdict names
abbrev pub with_verdict : Verdict → Info → Info
with_verdict verdict.Yes info = info
with_verdict verdict.Length info = info
with_verdict (verdict.Unlisted i) info = record info { person = i }
with_verdict (verdict.Twice j) info = record info { object = j }
with_verdict (verdict.PriceRange j) info = record info { object = j }
with_verdict (verdict.Slack i j) info = record info { person = i; object = j }
with_verdict (verdict.Overpriced j) info = record info { object = j }

-- the code of a verdict on persons and objects
abbrev pub hall_code : HallVerdict → ℤ
hall_code hall.Yes = pos 1
hall_code hall.Range = pos 15
hall_code hall.Order = pos 16
hall_code (hall.Missing i j) = pos 17
hall_code (hall.Extra j) = pos 18
hall_code hall.Count = pos 19

-- the record with the person and the object that this verdict names
abbrev pub with_hall_verdict : HallVerdict → Info → Info
with_hall_verdict hall.Yes info = info
with_hall_verdict hall.Range info = info
with_hall_verdict hall.Order info = info
with_hall_verdict (hall.Missing i j) info = record info { person = i; object = j }
with_hall_verdict (hall.Extra j) info = record info { object = j }
with_hall_verdict hall.Count info = info

-- the first fault, with its code and its place
pub record IsRefused (g : InputLists) (before after : Info) (code : ℤ) : Type 0 where
  pub fault : Fault
  pub is : code ≡ fault_code fault
  pub first : HasFault g fault
  pub place : after ≡ record before { place = fault_place before.place fault }

-- the verdict on an assignment and prices, with its code and what it names
pub record IsJudged (g : InputLists) (objects : List ℕ) (prices : List ℤ) (before after : Info) (code : ℤ) : Type 0 where
  pub verdict : Verdict
  pub is : code ≡ verdict_code verdict
  pub names : after ≡ with_verdict verdict before
  pub holds : IsOfInput g (λ l. IsVerdict l objects prices verdict)

-- the verdict on persons and objects, with its code and what it names
pub record IsHallJudged (g : InputLists) (persons objects : List ℕ) (before after : Info) (code : ℤ) : Type 0 where
  pub verdict : HallVerdict
  pub is : code ≡ hall_code verdict
  pub names : after ≡ with_hall_verdict verdict before
  pub holds : IsOfInput g (λ l. IsHallVerdict l persons objects verdict)
