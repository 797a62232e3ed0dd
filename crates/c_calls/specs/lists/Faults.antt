-- The faults of what a caller gives.
use Rattle.std.specs.Prelude.{◌≡◌, ℕ, ◌<◌, List, None, Some, IsSome, length, All, slice_index_or}
use Rattle.assign_core.specs.Numbered.{IsNumber}
use Rattle.assign_core.specs.Rows.{IsCost}
use Rattle.assign_core.specs.declared.sense.Sense.{Sense as Wanted}
use Rattle.cost_lists.specs.Exact.{IsPriceInLimits}
use Rattle.cost_lists.specs.ListedCosts.{ListedCosts}
use Rattle.c_calls.specs.declared.fault.Fault.{Fault}
use Rattle.c_calls.specs.declared.fault.Fault.TheVariants.{Sense, Size, Length, Person, Object, Cost, Price, Memory}
use Rattle.c_calls.specs.Sizes.{HasSize, sense_of}
use Rattle.c_calls.specs.lists.Input.{InputLists, HasLengths, lists_in}

-- the element at place k lacks the property, and those before it have it
pub record IsFirstWithout {A : Type 0} (P : A → Type 0) (xs : List A) (k : ℕ) : Type 0 where
  pub within : k < length xs
  pub lacks : (d : A) → ¬ P (slice_index_or xs k d)
  pub before : (i : ℕ) (d : A) → i < k → P (slice_index_or xs i d)

-- a sense, a size, and lists of the right lengths
pub record HasShape (g : InputLists) : Type 0 where
  pub sense : IsSome (sense_of g.sense)
  pub size : HasSize g.n g.m
  pub lengths : HasLengths g

-- the pairs are of persons and objects
pub record AreNumbers (g : InputLists) : Type 0 where
  pub persons : All (IsNumber g.n) g.persons
  pub objects : All (IsNumber g.m) g.objects

-- no fault
pub record IsWhole (g : InputLists) : Type 0 where
  pub shape : HasShape g
  pub numbers : AreNumbers g
  pub costs : All IsCost g.costs
  pub first : All IsPriceInLimits g.first

-- the first fault in the order of the variants, by the first place that has it
abbrev pub HasFault : InputLists → Fault → Type 0
HasFault g Sense = sense_of g.sense ≡ None
HasFault g Size = IsSome (sense_of g.sense) × ¬ HasSize g.n g.m
HasFault g Length = IsSome (sense_of g.sense) × HasSize g.n g.m × ¬ HasLengths g
HasFault g (Person k) = HasShape g × IsFirstWithout (IsNumber g.n) g.persons k
HasFault g (Object k) =
    HasShape g × All (IsNumber g.n) g.persons × IsFirstWithout (IsNumber g.m) g.objects k
HasFault g (Cost k) = HasShape g × AreNumbers g × IsFirstWithout IsCost g.costs k
HasFault g (Price k) =
    HasShape g × AreNumbers g × All IsCost g.costs × IsFirstWithout IsPriceInLimits g.first k
HasFault g Memory = IsWhole g

-- what holds of the costs of the given problem, under the requested sense
pub record IsOfInput (g : InputLists) (Holds : ListedCosts → Type 0) : Type 0 where
  pub sense : Wanted
  pub wanted : sense_of g.sense ≡ Some sense
  pub whole : IsWhole g
  pub holds : Holds (lists_in sense g)
