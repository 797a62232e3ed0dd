-- Weak duality with exact prices in the wide limits, and verdicts that exclude each other.
use Rattle.std.proofs.Common.{◌≡◌, ℕ, ℤ, List}
use Rattle.assign_core.specs.Assignment.{IsBest}
use Rattle.cost_lists.specs.ListedCosts.{ListedCosts}
use Rattle.cost_lists.proofs.ExactDuality.{best_by_choices, no_price_below}
use Rattle.exact_checker.specs.declared.verdict.Verdict.{Verdict}
use Rattle.exact_checker.proofs.Differences.{same_verdict}
use Rattle.wide_checker.specs.WideLimits.{AreInWideLimits}
use Rattle.wide_checker.specs.WideNumbers.{IsInPrices}
use Rattle.wide_checker.specs.WideOptimum.{IsWideOptimum}
use Rattle.wide_checker.specs.WideVerdicts.{IsWideVerdict}

pub best_wide : (l : ListedCosts) (xs : List ℕ) (prices : List ℤ) → AreInWideLimits l → IsWideOptimum l xs prices → IsBest l.sense l.rows xs
best_wide l xs prices limits o = best_by_choices l.sense l.m l.rows xs prices limits.within (λ j. no_price_below IsInPrices (λ p h. h.least) prices j o.in_range) o.assigned o.choices o.free

pub wide_verdicts_differ : (l : ListedCosts) (xs : List ℕ) (prices : List ℤ) (v w : Verdict) → IsWideVerdict l xs prices v → IsWideVerdict l xs prices w → v ≡ w
wide_verdicts_differ l xs prices v w a b =
    same_verdict IsInPrices IsWideOptimum l xs prices (λ o. (o.assigned, o.priced, o.in_range, o.choices, o.free)) v w a b
