-- The faults of what a caller gives.
use Rattle.std.specs.Prelude.{◌≡◌, ℕ, Some, None, IsSome}
use Rattle.assign_core.specs.declared.sense.Sense.{Sense as Wanted}
use Rattle.double_costs.specs.DoubleRows.{IsFirstFault}
use Rattle.double_checker.specs.Verdicts.{AreCosts}
use Rattle.c_calls.specs.declared.fault.Fault.{Fault}
use Rattle.c_calls.specs.declared.fault.Fault.TheVariants.{Sense, Size, Length, Person, Object, Cost, Price, Memory}
use Rattle.c_calls.specs.declared.size.Shape.{Shape}
use Rattle.c_calls.specs.Sizes.{HasSize, sense_of}
use Rattle.c_calls.specs.doubles.Input.{InputDoubles, HasLengths}

-- a sense, a size, and lists of the right lengths
pub record HasShape (g : InputDoubles) : Type 0 where
  pub sense : IsSome (sense_of g.sense)
  pub size : HasSize g.n g.m
  pub lengths : HasLengths g

-- the given problem has this sense, this size and the right lengths
pub record IsShape (g : InputDoubles) (shape : Shape) : Type 0 where
  pub wanted : sense_of g.sense ≡ Some shape.sense
  pub persons : shape.n ≡ g.n
  pub objects : shape.m ≡ g.m
  pub fits : HasShape g

-- no fault, under this sense
pub record IsWhole (g : InputDoubles) (sense : Wanted) : Type 0 where
  pub wanted : sense_of g.sense ≡ Some sense
  pub shape : HasShape g
  pub costs : AreCosts sense g.costs

-- the first double that is no cost stands at this place
pub record IsCostFault (g : InputDoubles) (k : ℕ) : Type 0 where
  pub sense : Wanted
  pub wanted : sense_of g.sense ≡ Some sense
  pub shape : HasShape g
  pub first : IsFirstFault sense g.costs k

-- no fault
pub record IsFaultless (g : InputDoubles) : Type 0 where
  pub sense : Wanted
  pub whole : IsWhole g sense

-- the first fault in the order of the variants, by the first place that has it; there are no lists of
-- pairs, and no first prices
abbrev pub HasFault : InputDoubles → Fault → Type 0
HasFault g Sense = sense_of g.sense ≡ None
HasFault g Size = IsSome (sense_of g.sense) × ¬ HasSize g.n g.m
HasFault g Length = IsSome (sense_of g.sense) × HasSize g.n g.m × ¬ HasLengths g
HasFault g (Person k) = ⊥
HasFault g (Object k) = ⊥
HasFault g (Cost k) = IsCostFault g k
HasFault g (Price k) = ⊥
HasFault g Memory = IsFaultless g
