-- The sense and the size of what a caller gives.
use Rattle.std.specs.Prelude.{◌≡◌, Some, length}
use Rattle.list_solver.specs.declared.state.SearchState.{SearchState}
use Rattle.c_calls.specs.declared.size.Shape.{Shape}
use Rattle.c_calls.specs.Sizes.{sense_of}
use Rattle.c_calls.specs.lists.Input.{InputLists}
use Rattle.c_calls.specs.lists.Faults.{HasShape}

-- the given lists have this sense, this size and the right lengths
pub record IsShape (g : InputLists) (shape : Shape) : Type 0 where
  pub wanted : sense_of g.sense ≡ Some shape.sense
  pub persons : shape.n ≡ g.n
  pub objects : shape.m ≡ g.m
  pub fits : HasShape g

-- an object for each person and a price for each object
pub record HasStateLengths (g : InputLists) (s : SearchState) : Type 0 where
  pub objects : length s.objects.items ≡ g.n
  pub prices : length s.prices.items ≡ g.m
