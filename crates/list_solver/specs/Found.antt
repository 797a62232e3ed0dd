-- What a call found is what it says.
use Rattle.std.specs.Prelude.{ℕ, ◌≡◌, ◌≢◌}
use Rattle.assign_core.specs.Assignment.{total}
use Rattle.assign_core.specs.Hall.{IsHallSet}
use Rattle.cost_lists.specs.ListedCosts.{ListedCosts}
use Rattle.cost_lists.specs.Exact.{IsOptimum}
use Rattle.list_solver.specs.declared.found.Found.{Found}
use Rattle.list_solver.specs.declared.found.Found.TheVariants.{Best, Hall, Stopped}
use Rattle.list_solver.specs.declared.state.SearchState.{SearchState}

-- the best: an assignment with exact prices, and the sum of its costs; a Hall set: one of these costs;
-- nothing else is claimed
abbrev pub IsFound : ListedCosts → SearchState → Found → Type 0
IsFound l s (Best sum) = IsOptimum l s.objects.items s.prices.items × (sum ≡ total l.rows s.objects.items)
IsFound l s (Hall set) = IsHallSet l.rows set.persons.items set.objects.items
IsFound l s Stopped = Unit {0}

-- a call stops only where it has a budget, which isn't 0
abbrev pub MayStop : ℕ → Found → Type 0
MayStop budget (Best sum) = Unit {0}
MayStop budget (Hall set) = Unit {0}
MayStop budget Stopped = budget ≢ 0
