-- What the checker sees of a plan, in the words of the verdicts.
use Rattle.std.proofs.Common.{◌≡◌, ℕ}
use Rattle.std.proofs.Common.{List, length, Bool, true}
use Rattle.std.proofs.Common.{inl, inr, IsTrue, refl, sym, ◌∙◌, subst, arith}
use Rattle.std.proofs.lemmas.Int.{ints}
use Rattle.std.specs.List.{All}
use lib.Ieee.{Float}
use Rattle.assign_core.specs.declared.sense.Sense.{Sense}
use Rattle.assign_core.specs.Assignment.{IsAssignment, IsBest}
use Rattle.double_costs.specs.Units.{is_number, units_of}
use Rattle.double_costs.specs.DoubleRows.{rows_of_doubles}
use Rattle.double_costs.specs.Margins.{IsMarginOf}
use Rattle.double_costs.proofs.DoublePairs.{doubles_within}
use Rattle.double_costs.specs.Prices.{IsOnlyBest}
use Rattle.double_costs.proofs.Alone.{only_best}
use Rattle.double_costs.proofs.PricedDuality.{best_priced}
use Rattle.double_checker.specs.inside.Outcome.{IsVerdictOrFault}
use Rattle.double_checker.specs.Verdicts.{AreCosts, AreLong, IsVerdict, IsWithPrices, price_units}
use Rattle.double_checker.specs.declared.verdict.Verdict.{Verdict}
use Rattle.double_checker.specs.declared.verdict.Verdict.TheVariants.{Cost, Undecided, Best}
use Rattle.double_checker.specs.inside.Plans.{AreLeastUnmarked, AreOwn, AreRowsSeen, HasOpenRow, MarksJust}
use Rattle.double_checker.proofs.PlanPersons.{plan_choices, plan_choices_by}
use Rattle.double_checker.proofs.UnownedPrices.{unowned_least, least_unowned}
use Rattle.double_checker.proofs.FarRows.{open_far}

-- the verdicts on a plan with finite prices
pub with_prices : (sense : Sense) (costs : List Float) (xs : List ℕ) (prices : List Float) →
    AreLong (length xs) (length prices) costs xs prices →
    IsAssignment (rows_of_doubles (length prices) (length xs) costs) xs →
    All (λ p. IsTrue (is_number p)) prices → AreCosts sense costs → IsWithPrices sense (length xs) (length prices)
    costs xs prices
with_prices sense costs xs prices long a finite each = record {
  doubles = record { long = long; costs_are = each };
  assigned = a;
  finite = finite;
}

pub best_is : (sense : Sense) (costs : List Float) (xs : List ℕ) (prices : List Float) (margin : Float)
    (owned : List Bool) (b r : Bool) → AreLong (length xs) (length prices) costs xs prices →
    AreOwn (length prices) costs xs → IsAssignment (rows_of_doubles (length prices) (length xs) costs) xs →
    All (λ p. IsTrue (is_number p)) prices → MarksJust owned xs → AreLeastUnmarked owned prices →
    AreRowsSeen sense (units_of margin) (length prices) costs xs prices b (length xs) →
    (r ≡ true → (b ≡ true) × IsMarginOf (units_of margin) costs) → AreCosts sense costs →
    IsVerdict sense (length xs) (length prices) costs xs prices margin (Best r)
best_is sense costs xs prices margin owned b r long own a finite marks low seen by each = (
  with_prices sense costs xs prices long a finite each,
  record {
    assigned = a;
    choices = plan_choices sense (units_of margin) (length prices) costs xs prices b long.costs_long refl own seen;
    unowned = unowned_least (length prices) xs prices owned refl marks low;
  },
  λ e. record {
    enough = (by e).1;
    worse = plan_choices_by sense (units_of margin) (length prices) costs xs prices b long.costs_long refl own seen
        (by e).0;
  },
)

pub dear_is : (sense : Sense) (costs : List Float) (xs : List ℕ) (prices : List Float) (margin : Float)
    (owned : List Bool) → AreLong (length xs) (length prices) costs xs prices →
    IsAssignment (rows_of_doubles (length prices) (length xs) costs) xs → All (λ p. IsTrue (is_number p)) prices →
    MarksJust owned xs → (AreLeastUnmarked owned prices → ⊥) →
    AreCosts sense costs → IsVerdict sense (length xs) (length prices) costs xs prices margin Undecided
dear_is sense costs xs prices margin owned long a finite marks dear each = (
  with_prices sense costs xs prices long a finite each,
  λ best. absurd (dear (least_unowned (length prices) xs prices owned refl marks best.unowned)),
)

pub open_is : (sense : Sense) (costs : List Float) (xs : List ℕ) (prices : List Float) (margin : Float) →
    AreLong (length xs) (length prices) costs xs prices →
    AreOwn (length prices) costs xs → IsAssignment (rows_of_doubles (length prices) (length xs) costs) xs →
    All (λ p. IsTrue (is_number p)) prices → HasOpenRow sense (length prices) costs xs prices →
    AreCosts sense costs → IsVerdict sense (length xs) (length prices) costs xs prices margin Undecided
open_is sense costs xs prices margin long own a finite row each = (
  with_prices sense costs xs prices long a finite each,
  λ best. open_far sense (length prices) costs xs prices
      long.costs_long refl own each row best,
)

no_cost : (k : ℕ) (b : Bool) → Cost k ≡ Best b → ⊥
no_cost k b e = cc

pub best_of : (sense : Sense) (n m : ℕ) (costs : List Float) (xs : List ℕ) (prices : List Float) (margin : Float)
    (v r : Verdict) (b : Bool) → length xs ≡ n → length prices ≡ m →
    IsVerdictOrFault sense costs v r → (AreCosts sense costs → IsVerdict sense (length xs) (length prices)
    costs xs prices margin v) → ((a : Bool) → v ≡ Best a → AreCosts sense costs) →
    r ≡ Best b → IsBest sense (rows_of_doubles m n costs) xs
best_of sense n m costs xs prices margin v r b persons objects o verdict best e = elim o [
  | inl h ↦
      let g : v ≡ Best b = sym h.0 ∙ e in
      let p = subst (IsVerdict sense (length xs) (length prices) costs xs prices margin) g (verdict (best b g)) in
      subst (λ (q : ℕ). IsBest sense (rows_of_doubles m q costs) xs) persons
      (subst (λ (q : ℕ). IsBest sense (rows_of_doubles q (length xs) costs) xs) objects
      (best_priced sense (length prices) (rows_of_doubles (length prices) (length xs) costs) xs (price_units prices)
      (doubles_within (length prices) (length xs) costs) p.1))
  | inr h ↦ absurd (no_cost h.0 b (sym h.1 ∙ e))
]

pub alone_of : (sense : Sense) (n m : ℕ) (costs : List Float) (xs : List ℕ) (prices : List Float) (margin : Float)
    (v r : Verdict) → length xs ≡ n → length prices ≡ m →
    IsVerdictOrFault sense costs v r → (AreCosts sense costs → IsVerdict sense (length xs) (length prices)
    costs xs prices margin v) → ((a : Bool) → v ≡ Best a → AreCosts sense costs) →
    r ≡ Best true → IsOnlyBest sense (rows_of_doubles m n costs) xs
alone_of sense n m costs xs prices margin v r persons objects o verdict best e = elim o [
  | inl h ↦
      let g : v ≡ Best true = sym h.0 ∙ e in
      let p = subst (IsVerdict sense (length xs) (length prices) costs xs prices margin) g (verdict (best true g)) in
      let by = p.2 refl in
      let some = by.enough.some in
      subst (λ (q : ℕ). IsOnlyBest sense (rows_of_doubles m q costs) xs) persons
      (subst (λ (q : ℕ). IsOnlyBest sense (rows_of_doubles q (length xs) costs) xs) objects
      (only_best sense (length prices) (units_of margin) (rows_of_doubles (length prices) (length xs) costs) xs
      (price_units prices) (omega (arith, ints)) (doubles_within (length prices) (length xs) costs) p.1 by.worse))
  | inr h ↦ absurd (no_cost h.0 true (sym h.1 ∙ e))
]
