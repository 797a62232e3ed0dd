-- Searches of given problems.
use Rattle.std.specs.Prelude.{ℕ}
use Rattle.list_solver.specs.Found.{IsFound, MayStop}
use Rattle.c_calls.specs.declared.lists.answer.Searched.{Searched}
use Rattle.c_calls.specs.lists.Faults.{IsWhole}
use Rattle.c_calls.specs.lists.Input.{InputLists, lists_in}
use Rattle.c_calls.specs.lists.Shapes.{HasStateLengths, IsShape}

-- a search of a given problem without a fault, with an answer that the budget allows
pub record IsSearched (g : InputLists) (budget : ℕ) (s : Searched) : Type 0 where
  pub shape : IsShape g s.shape
  pub whole : IsWhole g
  pub lengths : HasStateLengths g s.state
  pub answer : IsFound (lists_in s.shape.sense g) s.state s.found
  pub allowed : MayStop budget s.found
