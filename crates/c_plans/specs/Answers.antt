-- Answers to whether a plan is the only best one.
use Rattle.std.specs.Prelude.{◌≢◌, ℕ, ℤ, pos, List, [], true}
use Rattle.cost_lists.specs.Exact.{IsOptimum}
use Rattle.cost_lists.specs.ListedCosts.{ListedCosts}
use Rattle.exact_checker.specs.Verdicts.{IsVerdict}
use Rattle.exact_checker.specs.declared.verdict.Verdict.TheVariants.{Yes}
use Rattle.plan_checker.specs.Ranks.{AreRanked}
use Rattle.c_plans.specs.declared.answer.Answer.{Answer}
use Rattle.c_plans.specs.declared.answer.Answer.TheVariants.{Refused, Only, Other, Open}

-- other objects, of which the same prices are a proof
pub record IsOtherOptimum (l : ListedCosts) (xs : List ℕ) (prices : List ℤ) (ys : List ℕ) : Type 0 where
  pub proof : IsOptimum l ys prices
  pub other : ys ≢ xs

-- the plan's own verdict if it isn't proved; else strict ranks, another optimum, or no claim
abbrev pub IsAnswer : ListedCosts → List ℕ → List ℤ → Answer → Type 0
IsAnswer l xs prices (Refused verdict) = IsVerdict l xs prices verdict × (verdict ≢ Yes)
IsAnswer l xs prices (Only ranks) = IsOptimum l xs prices × AreRanked true (pos 1) l xs prices ranks.items 0 []
IsAnswer l xs prices (Other ys) = IsOptimum l xs prices × IsOtherOptimum l xs prices ys.items
IsAnswer l xs prices Open = IsOptimum l xs prices
