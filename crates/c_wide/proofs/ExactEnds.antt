-- What the calls on exact doubles leave.
use Rattle.std.proofs.Common.{◌≡◌, ℕ, ℤ, pos, ◌-ℤ◌, ◌*◌, List, length, inl, inr, ap, sym, subst, ◌∙◌}
use lib.Ieee.{Float}
use Rattle.assign_core.specs.Rows.{Listing}
use Rattle.assign_core.specs.Assignment.{IsBest}
use Rattle.assign_core.specs.declared.sense.Sense.{Sense as Wanted}
use Rattle.cost_lists.specs.ListedCosts.{ListedCosts}
use Rattle.exact_checker.specs.declared.verdict.Verdict.{Verdict}
use Rattle.exact_checker.specs.declared.verdict.Verdict.TheVariants.{Yes}
use Rattle.c_calls.specs.declared.fault.Fault.TheVariants.{Cost, Memory}
use Rattle.c_calls.specs.declared.lists.info.Info.{Info}
use Rattle.c_calls.specs.doubles.Faults.{IsWhole}
use Rattle.c_calls.specs.lists.Faults.{IsFirstWithout}
use Rattle.c_calls.specs.doubles.Input.{InputDoubles, rows_in}
use Rattle.double_costs.specs.DoubleRows.{rows_of_doubles}
use Rattle.double_costs.specs.Margins.{AreRowsBeside}
use Rattle.wide_checker.specs.WideVerdicts.{IsWideVerdict}
use Rattle.c_wide.specs.declared.exact.judge.Judged.{Judged}
use Rattle.c_wide.specs.Ends.{IsWideShown, WideBuffers}
use Rattle.c_wide.specs.exact.Given.{HasExactFault, IsJudgedBy, IsOfExact, IsScaled}
use Rattle.c_wide.specs.exact.Ends.{IsExactRefused, IsExactShown, IsExactVerdict}
use Rattle.c_wide.specs.exact.Units.{IsFirstAbove, IsGreatestUnit, IsWithin}
use Rattle.c_wide.proofs.UnitLaws.{first_is_above}
use Rattle.c_wide.proofs.ScaledRows.{best_scaled, hall_scaled, none_scaled}

pub shown_exact : (e : ℕ) (g : InputDoubles) (l : ListedCosts) (before after : WideBuffers) (code : ℤ) →
    AreRowsBeside (IsScaled e) (rows_in g) l.rows → IsWideShown l before after code → IsExactShown g l before after code
shown_exact e g l before after code b shown = elim shown [
  | inl best ↦ inl (record {
    in_units = best;
    best = best_scaled e l.sense (rows_in g) l.rows after.objects b best.best;
  })
  | inr rest ↦ inr (elim rest [
    | inl hall ↦ inl (record {
      some = hall.some;
      few = hall.few;
      is = hall.is;
      proof = hall_scaled e (rows_in g) l.rows hall.some hall.few b hall.proof;
      none = none_scaled e (rows_in g) l.rows b hall.none;
      stays = hall.stays;
    })
    | inr none ↦ inr none
  ])
]

module _ (g : InputDoubles) (j : Judged) (judged : IsJudgedBy g j) where
  pub pairs_long : length g.costs ≡ j.shape.n * j.shape.m
  pairs_long =
      let s = judged.shape in
      s.fits.lengths.pairs ∙ ap (λ (i : ℕ). i * g.m) (sym s.persons) ∙ ap (λ (i : ℕ). j.shape.n * i) (sym s.objects)

  -- the same problem in its unit
  module _ (l : ListedCosts) (sense : l.sense ≡ j.shape.sense) (objects : l.m ≡ j.shape.m)
      (rows : AreRowsBeside (IsScaled j.unit) (rows_of_doubles j.shape.m j.shape.n g.costs) l.rows) where
    pub rows_beside : AreRowsBeside (IsScaled j.unit) (rows_in g) l.rows
    rows_beside =
        subst (λ (m : ℕ). AreRowsBeside (IsScaled j.unit) (rows_of_doubles m g.n g.costs) l.rows) judged.shape.objects
        (subst (λ (n : ℕ). AreRowsBeside (IsScaled j.unit) (rows_of_doubles j.shape.m n g.costs) l.rows) judged.shape.persons rows)

    pub of_exact : (unit : ℤ) (Holds : ListedCosts → Type 0) → unit ≡ pos j.unit -ℤ pos 1074 → Holds l → IsOfExact g unit Holds
    of_exact unit Holds is holds = record {
      sense = j.shape.sense;
      whole = judged.whole;
      lists = l;
      same = record {
        e = j.unit;
        is = is;
        greatest = judged.greatest;
        wanted = sense;
        objects = objects ∙ judged.shape.objects;
        rows = rows_beside;
      };
      holds = holds;
    }

    pub shown_of : (before after : WideBuffers) (unit code : ℤ) → unit ≡ pos j.unit -ℤ pos 1074 → IsWideShown l before after code →
        IsOfExact g unit (λ lists. IsExactShown g lists before after code)
    shown_of before after unit code is shown = of_exact unit (λ lists. IsExactShown g lists before after code) is
        (shown_exact j.unit g l before after code rows_beside shown)

    pub verdict_of : (xs : List ℕ) (prices : List ℤ) (verdict : Verdict) (unit : ℤ) → unit ≡ pos j.unit -ℤ pos 1074 →
        IsWideVerdict l xs prices verdict → (verdict ≡ Yes → IsBest l.sense l.rows xs) →
        IsOfExact g unit (λ lists. IsExactVerdict g lists xs prices verdict)
    verdict_of xs prices verdict unit is holds best = of_exact unit (λ lists. IsExactVerdict g lists xs prices verdict) is
        (holds, λ yes. best_scaled j.unit l.sense (rows_in g) l.rows xs rows_beside (best yes))

  -- memory was refused
  pub exact_refused : (before after : Info) (code : ℤ) → code ≡ pos 9 → after ≡ before → IsExactRefused g before after code
  exact_refused before after code is stays = record {
    fault = Memory;
    is = is;
    first = record {
      fine = record { sense = j.shape.sense; whole = judged.whole };
      e = j.unit;
      greatest = judged.greatest;
      within = judged.within;
    };
    stays = stays;
  }

-- rows over the same costs
pub rows_by : (unit n m : ℕ) (given costs : List Float) (rows : List Listing) → given ≡ costs → length costs ≡ n * m →
    (length given ≡ n * m → AreRowsBeside (IsScaled unit) (rows_of_doubles m n given) rows) →
    AreRowsBeside (IsScaled unit) (rows_of_doubles m n costs) rows
rows_by unit n m given costs rows same long h =
    subst (λ (x : List Float). AreRowsBeside (IsScaled unit) (rows_of_doubles m n x) rows) same (h (ap length same ∙ long))

pub above_fault : (g : InputDoubles) (given : List Float) (sense : Wanted) (unit k : ℕ) → given ≡ g.costs → IsWhole g sense →
    IsGreatestUnit unit given → IsFirstWithout (IsWithin unit) given k → HasExactFault g (Cost k)
above_fault g given sense unit k same whole greatest first =
    inr (
      record { sense = sense; whole = whole },
      subst (λ (x : List Float). IsFirstAbove x k) same (first_is_above given unit k greatest first),
    )
