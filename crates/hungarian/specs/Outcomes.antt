-- What an outcome says.
use Rattle.assign_core.specs.Hall.{IsHallSet}
use Rattle.cost_lists.specs.ListedCosts.{ListedCosts}
use Rattle.cost_lists.specs.Exact.{IsOptimum}
use Rattle.hungarian.specs.declared.outcome.Outcome.{Outcome}
use Rattle.hungarian.specs.declared.outcome.Outcome.TheVariants.{Best, Hall}

-- the best: an assignment with exact prices of these costs; a Hall set: one of these rows
abbrev pub IsOutcome : ListedCosts → Outcome → Type 0
IsOutcome l (Best best) = IsOptimum l best.objects.items best.prices.items
IsOutcome l (Hall set) = IsHallSet l.rows set.persons.items set.objects.items
