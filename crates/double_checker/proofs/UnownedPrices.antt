-- The prices of unowned objects, by their marks.
use Rattle.std.proofs.Common.{◌≡◌, ℕ, ◌+◌, ◌-◌}
use Rattle.std.proofs.Common.{List, length, Bool}
use Rattle.std.proofs.Common.{inl, inr, arith, sym, ap, ◌∙◌, subst}
use Rattle.std.proofs.lemmas.Int.{ints}
use lib.Ieee.{Float, nan}
use Rattle.assign_core.specs.Numbered.{IsNumber, numbered}
use Rattle.assign_core.specs.Prices.{price_of}
use Rattle.assign_core.proofs.NumberedLemmas.{numbered-index}
use Rattle.double_costs.specs.Units.{units_of}
use Rattle.double_costs.specs.Prices.{AreLeastUnowned}
use Rattle.double_checker.specs.Verdicts.{price_units}
use Rattle.double_checker.specs.inside.Plans.{AreLeastUnmarked, MarksJust}
use Rattle.double_checker.proofs.PlanRows.{price_at}

price_number : (prices : List Float) (j : ℕ) → IsNumber (length prices) j → price_of (price_units prices) j ≡ units_of
    (numbered prices j nan)
price_number prices j n =
    let f = n.first in
    let l = n.last in
    let e : j ≡ j - 1 + 1 = omega arith in
    ap (price_of (price_units prices)) e ∙ price_at prices (j - 1) (omega arith)
    ∙ ap units_of (sym (numbered-index prices j nan nan n.first n.last))

pub unowned_least : (m : ℕ) (xs : List ℕ) (prices : List Float) (owned : List Bool) → length prices ≡ m →
    MarksJust owned xs → AreLeastUnmarked owned prices → AreLeastUnowned m (price_units prices) xs
unowned_least m xs prices owned long marks low j k nj nk =
    let a : IsNumber (length prices) j = subst (λ (q : ℕ). IsNumber q j) (sym long) nj in
    let b : IsNumber (length prices) k = subst (λ (q : ℕ). IsNumber q k) (sym long) nk in
    elim (low j k a b) [
      | inl o ↦ inl ((marks j).0 o)
      | inr h ↦ inr (let x = price_number prices j a in let y = price_number prices k b in omega (arith, ints))
    ]

pub least_unowned : (m : ℕ) (xs : List ℕ) (prices : List Float) (owned : List Bool) → length prices ≡ m →
    MarksJust owned xs → AreLeastUnowned m (price_units prices) xs → AreLeastUnmarked owned prices
least_unowned m xs prices owned long marks low j k nj nk =
    elim (low j k (subst (λ (q : ℕ). IsNumber q j) long nj) (subst (λ (q : ℕ). IsNumber q k) long nk)) [
      | inl o ↦ inl ((marks j).1 o)
      | inr h ↦ inr (let x = price_number prices j nj in let y = price_number prices k nk in omega (arith, ints))
    ]
