-- Answers to which plan's worst pair is as good as possible.
use Rattle.std.specs.Prelude.{◌≢◌, ℕ}
use Rattle.assign_core.specs.Hall.{IsHallSet}
use Rattle.cost_lists.specs.ListedCosts.{ListedCosts}
use Rattle.bottleneck_checker.specs.Bottleneck.{IsShown}
use Rattle.c_bottleneck.specs.declared.answer.Answer.{Answer}
use Rattle.c_bottleneck.specs.declared.answer.Answer.TheVariants.{Best, Short, Stopped, Open}

-- a plan with the cost of its worst pair and persons who show that no plan has a better one; a Hall set;
-- the budget, which isn't 0, is spent; or no claim
abbrev pub IsAnswer : ListedCosts → ℕ → Answer → Type 0
IsAnswer l budget (Best xs worst set) = IsShown l xs.items worst set.persons.items set.objects.items
IsAnswer l budget (Short set) = IsHallSet l.rows set.persons.items set.objects.items
IsAnswer l budget Stopped = budget ≢ 0
IsAnswer l budget Open = Unit {0}
