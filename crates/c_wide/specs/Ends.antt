-- What the calls return and write.
use Rattle.std.specs.Prelude.{◌≡◌, ◌⊎◌, ◌++◌, ℕ, ℤ, pos, List, length, drop, map}
use Rattle.assign_core.specs.Assignment.{IsAssignment, IsBest, total}
use Rattle.assign_core.specs.Hall.{IsHallSet}
use Rattle.cost_lists.specs.ListedCosts.{ListedCosts}
use Rattle.exact_checker.specs.declared.verdict.Verdict.{Verdict}
use Rattle.c_calls.specs.declared.fault.Fault.{Fault}
use Rattle.c_calls.specs.declared.lists.info.Info.{Info}
use Rattle.c_calls.specs.Codes.{fault_code, fault_place}
use Rattle.c_calls.specs.lists.Checks.{verdict_code, with_verdict}
use Rattle.wide_checker.specs.declared.numbers.Wide.{Wide}
use Rattle.wide_checker.specs.WideNumbers.{wide_value}
use Rattle.wide_checker.specs.WideOptimum.{IsWideOptimum}
use Rattle.wide_checker.specs.WideVerdicts.{IsWideVerdict}
use Rattle.c_wide.specs.Given.{GivenWide, HasWideFault, IsOfWide}

-- the caller's buffers
pub record WideBuffers : Type 0 where
  pub objects : List ℕ
  pub persons : List ℕ
  pub prices : List Wide
  pub total : Wide
  pub info : Info

abbrev pub wide_buffers : List ℕ → List ℕ → List Wide → Wide → Info → WideBuffers
wide_buffers objects persons prices total info =
    record { objects = objects; persons = persons; prices = prices; total = total; info = info }

-- an optimal assignment with exact prices, which prove it, and the sum of its costs
pub record ShowsWideBest (l : ListedCosts) (before after : WideBuffers) (code : ℤ) : Type 0 where
  pub is : code ≡ pos 0
  pub proof : IsWideOptimum l after.objects (map wide_value after.prices)
  pub best : IsBest l.sense l.rows after.objects
  pub sum : wide_value after.total ≡ total l.rows after.objects
  pub stays : after ≡ record before { objects = after.objects; prices = after.prices; total = after.total }

-- a Hall set, at the beginning of two buffers: there is no assignment
pub record ShowsWideHall (l : ListedCosts) (before after : WideBuffers) (code : ℤ) : Type 0 where
  pub some : List ℕ
  pub few : List ℕ
  pub is : code ≡ pos 1
  pub proof : IsHallSet l.rows some few
  pub none : (xs : List ℕ) → ¬ IsAssignment l.rows xs
  pub stays : after ≡ record before {
    persons = some ++ drop (length some) before.persons;
    objects = few ++ drop (length few) before.objects;
    info = record before.info { persons = length some; objects = length few };
  }

-- no claim
pub record ShowsNoWide (before after : WideBuffers) (code : ℤ) : Type 0 where
  pub is : code ≡ pos 23
  pub stays : after ≡ before

abbrev pub IsWideShown : ListedCosts → WideBuffers → WideBuffers → ℤ → Type 0
IsWideShown l before after code =
    ShowsWideBest l before after code ⊎ (ShowsWideHall l before after code ⊎ ShowsNoWide before after code)

-- the first fault, with its code and its place; all else stays
pub record IsWideRefused (g : GivenWide) (before after : Info) (code : ℤ) : Type 0 where
  pub fault : Fault
  pub is : code ≡ fault_code fault
  pub first : HasWideFault g fault
  pub stays : after ≡ record before { place = fault_place before.place fault }

-- what a call returns and writes that solves a problem
abbrev pub IsWideReported : GivenWide → WideBuffers → WideBuffers → ℤ → Type 0
IsWideReported g before after code =
    IsOfWide g (λ l. IsWideShown l before after code)
    ⊎ (IsWideRefused g before.info after.info code × (after ≡ record before { info = after.info }))

-- the verdict on an assignment and prices, with its code and what it names
pub record IsWideSeen (g : GivenWide) (xs : List ℕ) (prices : List Wide) (before after : Info) (code : ℤ) : Type 0 where
  pub verdict : Verdict
  pub is : code ≡ verdict_code verdict
  pub names : after ≡ with_verdict verdict before
  pub holds : IsOfWide g (λ l. IsWideVerdict l xs (map wide_value prices) verdict)

-- what a call returns and records that checks a plan
abbrev pub IsWideJudged : GivenWide → List ℕ → List Wide → Info → Info → ℤ → Type 0
IsWideJudged g xs prices before after code =
    IsWideSeen g xs prices before after code ⊎ IsWideRefused g before after code
