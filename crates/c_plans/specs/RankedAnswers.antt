-- Answers to which plans are the first of all.
use Rattle.std.specs.Prelude.{◌≢◌, ◌<◌, ℕ, ℤ, List, length}
use Rattle.cost_lists.specs.Exact.{IsOptimum}
use Rattle.cost_lists.specs.ListedCosts.{ListedCosts}
use Rattle.exact_checker.specs.Verdicts.{IsVerdict}
use Rattle.exact_checker.specs.declared.verdict.Verdict.TheVariants.{Yes}
use Rattle.ranking_checker.specs.Ranking.{AreAll, AreCosts, AreFirst}
use Rattle.c_plans.specs.declared.ranked.Ranked.{Ranked}
use Rattle.c_plans.specs.declared.ranked.Ranked.TheVariants.{Refused, First, All, Open}

-- plans are all that there are, fewer than so many, and cost this
pub record AreFewer (l : ListedCosts) (count : ℕ) (plans : List ℕ) (costs : List ℤ) : Type 0 where
  pub few : length costs < count
  pub all : AreAll l.sense l.rows (length costs) plans
  pub cost : AreCosts l.rows (length costs) plans costs

-- the plan's own verdict if it isn't proved; else the first so many plans with their costs, fewer that are all, or no
-- claim
abbrev pub IsRankedAnswer : ListedCosts → List ℕ → List ℤ → ℕ → Ranked → Type 0
IsRankedAnswer l xs prices count (Refused verdict) = IsVerdict l xs prices verdict × (verdict ≢ Yes)
IsRankedAnswer l xs prices count (First plans costs) =
    IsOptimum l xs prices × AreFirst l.sense l.rows count plans.items × AreCosts l.rows count plans.items costs.items
IsRankedAnswer l xs prices count (All plans costs) = IsOptimum l xs prices × AreFewer l count plans.items costs.items
IsRankedAnswer l xs prices count Open = IsOptimum l xs prices
