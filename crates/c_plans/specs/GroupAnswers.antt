-- Answers to which objects can change places.
use Rattle.std.specs.Prelude.{◌≢◌, ℕ, ℤ, List}
use Rattle.cost_lists.specs.Exact.{IsOptimum}
use Rattle.cost_lists.specs.ListedCosts.{ListedCosts}
use Rattle.exact_checker.specs.Verdicts.{IsVerdict}
use Rattle.exact_checker.specs.declared.verdict.Verdict.TheVariants.{Yes}
use Rattle.group_checker.specs.Groups.{AreGroups}
use Rattle.c_plans.specs.declared.groups.Groups.{Groups}
use Rattle.c_plans.specs.declared.groups.Groups.TheVariants.{Refused, Joined, Open}

-- the plan's own verdict if it isn't proved; else the groups' numbers, or no claim
abbrev pub IsGroupAnswer : ListedCosts → List ℕ → List ℤ → Groups → Type 0
IsGroupAnswer l xs prices (Refused verdict) = IsVerdict l xs prices verdict × (verdict ≢ Yes)
IsGroupAnswer l xs prices (Joined groups) = IsOptimum l xs prices × AreGroups l xs prices groups.items
IsGroupAnswer l xs prices Open = IsOptimum l xs prices
