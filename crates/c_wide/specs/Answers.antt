-- Answers to given problems.
use Rattle.std.specs.Prelude.{◌≡◌, ⊤, map}
use Rattle.assign_core.specs.Assignment.{IsBest, total}
use Rattle.assign_core.specs.Hall.{IsHallSet}
use Rattle.cost_lists.specs.ListedCosts.{ListedCosts}
use Rattle.wide_checker.specs.WideNumbers.{wide_value}
use Rattle.wide_checker.specs.WideOptimum.{IsWideOptimum}
use Rattle.c_wide.specs.declared.answer.Answer.{Answer}
use Rattle.c_wide.specs.declared.answer.Answer.TheVariants.{Best, Hall, Undecided}

-- an optimal assignment with exact prices, and the sum of its costs; a Hall set; or no claim
abbrev pub IsWideAnswer : ListedCosts → Answer → Type 0
IsWideAnswer l (Best xs prices sum) =
    IsWideOptimum l xs.items (map wide_value prices.items) × IsBest l.sense l.rows xs.items
    × (wide_value sum ≡ total l.rows xs.items)
IsWideAnswer l (Hall set) = IsHallSet l.rows set.persons.items set.objects.items
IsWideAnswer l Undecided = ⊤
