-- Answers that change fewest persons.
use Rattle.std.specs.Prelude.{◌≡◌, ℕ, ⊤, List, map}
use Rattle.assign_core.specs.Assignment.{total}
use Rattle.assign_core.specs.Hall.{IsHallSet}
use Rattle.cost_lists.specs.ListedCosts.{ListedCosts}
use Rattle.wide_checker.specs.WideNumbers.{wide_value}
use Rattle.wide_checker.specs.WideOptimum.{IsWideOptimum}
use Rattle.c_wide.specs.declared.fewest.answer.FewestPlan.{FewestPlan}
use Rattle.c_wide.specs.declared.fewest.answer.FewestAnswer.{FewestAnswer}
use Rattle.c_wide.specs.declared.fewest.answer.FewestAnswer.TheVariants.{Best, Hall, Undecided}
use Rattle.c_wide.specs.fewest.Changes.{HasFewestChanges, changes, combined_lists}

-- an optimal assignment that changes fewest persons, prices that prove it at combined costs, the sum
-- of its costs, and how many persons it changes
pub record IsFewestPlan (l : ListedCosts) (kept : List ℕ) (plan : FewestPlan) : Type 0 where
  pub fewest : HasFewestChanges l kept plan.objects.items
  pub proof : IsWideOptimum (combined_lists kept l) plan.objects.items (map wide_value plan.prices.items)
  pub sum : plan.total ≡ total l.rows plan.objects.items
  pub count : plan.changes ≡ changes kept plan.objects.items

-- a plan of this kind; a Hall set; or no claim
abbrev pub IsFewestAnswer : ListedCosts → List ℕ → FewestAnswer → Type 0
IsFewestAnswer l kept (Best plan) = IsFewestPlan l kept plan
IsFewestAnswer l kept (Hall set) = IsHallSet l.rows set.persons.items set.objects.items
IsFewestAnswer l kept Undecided = ⊤
