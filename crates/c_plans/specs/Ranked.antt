-- What a call returns and writes that asks for the first plans.
use Rattle.std.specs.Prelude.{◌≡◌, ◌≢◌, ◌⊎◌, ◌<◌, ◌*◌, ℕ, ℤ, pos, List, [], ◌∷◌, length, take, drop, not, ◌==◌, ◌&&◌, if◌then◌else◌}
use Rattle.cost_lists.specs.Exact.{IsOptimum}
use Rattle.cost_lists.specs.ListedCosts.{ListedCosts}
use Rattle.exact_checker.specs.Verdicts.{IsVerdict}
use Rattle.exact_checker.specs.declared.verdict.Verdict.{Verdict}
use Rattle.exact_checker.specs.declared.verdict.Verdict.TheVariants.{Yes}
use Rattle.ranking_checker.specs.Ranking.{AreAll, AreCosts, AreFirst}
use Rattle.c_calls.specs.declared.fault.Fault.{Fault}
use Rattle.c_calls.specs.declared.lists.info.Info.{Info}
use Rattle.c_calls.specs.lists.Checks.{verdict_code, with_verdict}
use Rattle.c_calls.specs.Codes.{fault_code, fault_place}
use Rattle.c_calls.specs.lists.Faults.{HasFault, IsOfInput}
use Rattle.c_calls.specs.lists.Input.{InputLists, either_form}

-- what a call writes
pub record RankedBuffers : Type 0 where
  pub plans : List ℕ
  pub totals : List ℤ
  pub found : ℕ
  pub info : Info

abbrev pub ranked_buffers : List ℕ → List ℤ → ℕ → Info → RankedBuffers
ranked_buffers plans totals found info = record { plans = plans; totals = totals; found = found; info = info }

-- n, if some plans are asked for, and the list has n objects for each; else another number
abbrev pub each_length : ℕ → ℕ → ℕ → ℕ
each_length n long count = if not (count == 0) && (long == count * n) then n else (if n == 0 then 1 else 0)

-- what a caller gives: a problem of either form, and buffers with a total for each plan that is asked for, at
-- least one, and an object for each person of each plan
abbrev pub ranked_input : ℕ → ℕ → ℕ → List ℕ → List ℕ → List ℤ → RankedBuffers → InputLists
ranked_input sense n m of_persons of_objects costs buffers = record {
  form = either_form of_persons of_objects costs;
  sense = sense;
  n = n;
  m = m;
  by_person = each_length n (length buffers.plans) (length buffers.totals) ∷ [];
  by_object = [];
  persons = of_persons;
  objects = of_objects;
  costs = costs;
  first = [];
}

-- the plan is best, and so many plans as were asked for are the first of all, at these costs
pub record ShowsFirst (l : ListedCosts) (xs : List ℕ) (prices : List ℤ) (before after : RankedBuffers) (code : ℤ) : Type 0 where
  pub is : code ≡ pos 0
  pub proof : IsOptimum l xs prices
  pub first : AreFirst l.sense l.rows (length before.totals) after.plans
  pub costs : AreCosts l.rows (length before.totals) after.plans after.totals
  pub stays : after ≡ record before { plans = after.plans; totals = after.totals; found = length before.totals }

-- there are fewer, at the front of the buffers, and what follows them stays
pub record ShowsAll (l : ListedCosts) (xs : List ℕ) (prices : List ℤ) (before after : RankedBuffers) (code : ℤ) : Type 0 where
  pub is : code ≡ pos 25
  pub proof : IsOptimum l xs prices
  pub few : after.found < length before.totals
  pub all : AreAll l.sense l.rows after.found (take (after.found * length l.rows) after.plans)
  pub costs : AreCosts l.rows after.found (take (after.found * length l.rows) after.plans) (take after.found after.totals)
  pub plans_stay : drop (after.found * length l.rows) after.plans ≡ drop (after.found * length l.rows) before.plans
  pub totals_stay : drop after.found after.totals ≡ drop after.found before.totals
  pub stays : after ≡ record before { plans = after.plans; totals = after.totals; found = after.found }

-- the plan is best, and no more is claimed
pub record ShowsNoRanking (l : ListedCosts) (xs : List ℕ) (prices : List ℤ) (before after : RankedBuffers) (code : ℤ) : Type 0 where
  pub is : code ≡ pos 23
  pub proof : IsOptimum l xs prices
  pub stays : after ≡ before

-- the prices don't prove the plan: its verdict
pub record ShowsNoBest (l : ListedCosts) (xs : List ℕ) (prices : List ℤ) (before after : RankedBuffers) (code : ℤ) : Type 0 where
  pub verdict : Verdict
  pub is : code ≡ verdict_code verdict
  pub not_best : verdict ≢ Yes
  pub holds : IsVerdict l xs prices verdict
  pub stays : after ≡ record before { info = with_verdict verdict before.info }

abbrev pub IsRankedShown : ListedCosts → List ℕ → List ℤ → RankedBuffers → RankedBuffers → ℤ → Type 0
IsRankedShown l xs prices before after code =
    ShowsFirst l xs prices before after code ⊎ (ShowsAll l xs prices before after code
    ⊎ (ShowsNoRanking l xs prices before after code ⊎ ShowsNoBest l xs prices before after code))

-- the first fault, with its code and its place; all else stays
pub record IsRankedRefused (g : InputLists) (before after : RankedBuffers) (code : ℤ) : Type 0 where
  pub fault : Fault
  pub is : code ≡ fault_code fault
  pub first : HasFault g fault
  pub stays : after ≡ record before { info = record before.info { place = fault_place before.info.place fault } }

-- what a call does that asks for the first plans
abbrev pub JudgesRanked : InputLists → List ℕ → List ℤ → RankedBuffers → RankedBuffers → ℤ → Type 0
JudgesRanked g xs prices before after code =
    IsOfInput g (λ l. IsRankedShown l xs prices before after code) ⊎ IsRankedRefused g before after code
