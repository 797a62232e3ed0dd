-- Answers to problems over doubles.
use Rattle.std.specs.Prelude.{◌≡◌, ℕ, List, Bool, true, All, IsTrue}
use lib.Ieee.{Float}
use Rattle.assign_core.specs.declared.sense.Sense.{Sense}
use Rattle.assign_core.specs.Assignment.{IsAssignment, IsBest}
use Rattle.assign_core.specs.Hall.{IsHallSet}
use Rattle.double_costs.specs.Prices.{IsOnlyBest, IsPricedBest}
use Rattle.double_costs.specs.Units.{is_number, units_of}
use Rattle.double_checker.specs.Verdicts.{AreLong, IsBestByMargin, price_units}
use Rattle.c_calls.specs.declared.doubles.answer.Answer.{Answer}
use Rattle.c_calls.specs.declared.doubles.answer.Answer.TheVariants.{Best, Hall, Undecided}
use Rattle.c_calls.specs.doubles.Faults.{IsWhole}
use Rattle.c_calls.specs.doubles.Input.{InputDoubles, rows_in}

-- by some margin, which is above 0 and at least 2 ^ -52 of the size of each cost, each other pair of a
-- person is worse than its own
pub record IsByMargin (g : InputDoubles) (sense : Sense) (objects : List ℕ) (prices : List Float) : Type 0 where
  pub margin : Float
  pub worse : IsBestByMargin sense (units_of margin) (rows_in g) g.costs objects (price_units prices)

-- an optimal plan with prices that prove it, each a finite double; by a margin no other plan is as good
pub record IsBestBy (g : InputDoubles) (sense : Sense) (objects : List ℕ) (prices : List Float) (by_margin : Bool) : Type 0 where
  pub best : IsBest sense (rows_in g) objects
  pub long : AreLong g.n g.m g.costs objects prices
  pub finite : All (λ p. IsTrue (is_number p)) prices
  pub proof : IsPricedBest sense g.m (rows_in g) objects (price_units prices)
  pub alone : by_margin ≡ true → IsOnlyBest sense (rows_in g) objects
  pub margin : by_margin ≡ true → IsByMargin g sense objects prices

-- a Hall set: there is no plan
pub record IsForbidden (g : InputDoubles) (some few : List ℕ) : Type 0 where
  pub proof : IsHallSet (rows_in g) some few
  pub none : (xs : List ℕ) → ¬ IsAssignment (rows_in g) xs

-- the best: a plan and its prices; a Hall set; or no claim
abbrev pub IsAnswer : InputDoubles → Sense → Answer → Type 0
IsAnswer g sense (Best plan) = IsBestBy g sense plan.objects.items plan.prices.items plan.by_margin
IsAnswer g sense (Hall set) = IsForbidden g set.persons.items set.objects.items
IsAnswer g sense Undecided = Unit {0}

-- an answer to a problem without a fault
pub record IsFound (g : InputDoubles) (answer : Answer) : Type 0 where
  pub sense : Sense
  pub whole : IsWhole g sense
  pub holds : IsAnswer g sense answer

-- nothing, or an answer to a problem without a fault
abbrev pub IsAccepted : InputDoubles → Answer → Type 0
IsAccepted g Undecided = Unit {0}
IsAccepted g (Best plan) = IsFound g (Best plan)
IsAccepted g (Hall set) = IsFound g (Hall set)
