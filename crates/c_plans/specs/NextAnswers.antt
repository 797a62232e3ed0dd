-- Answers to which plan is the next best.
use Rattle.std.specs.Prelude.{◌≡◌, ◌≢◌, ℕ, ℤ, List}
use Rattle.assign_core.specs.Assignment.{total}
use Rattle.cost_lists.specs.Exact.{IsOptimum}
use Rattle.cost_lists.specs.ListedCosts.{ListedCosts}
use Rattle.exact_checker.specs.Verdicts.{IsVerdict}
use Rattle.exact_checker.specs.declared.verdict.Verdict.TheVariants.{Yes}
use Rattle.plan_checker.specs.Next.{IsNextBest, IsOnlyAssignment, excess}
use Rattle.c_plans.specs.declared.next.Next.{Next}
use Rattle.c_plans.specs.declared.next.Next.TheVariants.{Refused, Alone, Another, Open}
use Rattle.c_plans.specs.declared.next.NextCost.{NextCost}

-- a second assignment costs this in all, and so much more than the first
pub record CostsMore (l : ListedCosts) (xs ys : List ℕ) (cost : NextCost) : Type 0 where
  pub all : cost.total ≡ total l.rows ys
  pub more : excess l.sense l.rows xs ys ≡ cost.margin

-- after a best assignment a second one is a next best one, and costs this
pub record IsNext (l : ListedCosts) (xs ys : List ℕ) (cost : NextCost) : Type 0 where
  pub all : cost.total ≡ total l.rows ys
  pub next : IsNextBest l.sense l.rows xs ys cost.margin

-- the plan's own verdict if it isn't proved; else that there is no other one, a next best one with its cost, or
-- no claim
abbrev pub IsNextAnswer : ListedCosts → List ℕ → List ℤ → Next → Type 0
IsNextAnswer l xs prices (Refused verdict) = IsVerdict l xs prices verdict × (verdict ≢ Yes)
IsNextAnswer l xs prices Alone = IsOptimum l xs prices × IsOnlyAssignment l.rows xs
IsNextAnswer l xs prices (Another ys cost) = IsOptimum l xs prices × IsNext l xs ys.items cost
IsNextAnswer l xs prices Open = IsOptimum l xs prices
