-- What a solving call returns, and what it writes into the buffers.
use Rattle.std.specs.Prelude.{◌≡◌, ℕ, ℤ, pos, List, [], ◌∷◌, Result, Ok, Err, length, drop, ◌++◌}
use Rattle.assign_core.specs.Assignment.{IsAssignment, IsBest, total}
use Rattle.assign_core.specs.Hall.{IsHallSet}
use Rattle.cost_lists.specs.Exact.{IsOptimum}
use Rattle.cost_lists.specs.ListedCosts.{ListedCosts}
use Rattle.c_calls.specs.declared.fault.Fault.{Fault}
use Rattle.list_solver.specs.declared.found.Found.{Found}
use Rattle.list_solver.specs.declared.found.Found.TheVariants.{Best, Hall, Stopped}
use Rattle.list_solver.specs.Found.{MayStop}
use Rattle.c_calls.specs.Codes.{fault_code, fault_place}
use Rattle.c_calls.specs.declared.lists.info.Info.{Info}
use Rattle.c_calls.specs.lists.Input.{InputLists}
use Rattle.c_calls.specs.lists.Faults.{HasFault, IsOfInput}

-- the code of an end
abbrev pub end_code : Result Found Fault → ℤ
end_code (Ok (Best sum)) = pos 0
end_code (Ok (Hall set)) = pos 1
end_code (Ok Stopped) = pos 21
end_code (Err f) = fault_code f

-- the caller's buffers
pub record Buffers : Type 0 where
  pub objects : List ℕ
  pub persons : List ℕ
  pub prices : List ℤ
  pub info : Info

-- the caller's buffers with these lists and this record
abbrev pub buffers : List ℕ → List ℕ → List ℤ → Info → Buffers
buffers objects persons prices info =
    record { objects = objects; persons = persons; prices = prices; info = info }

-- an optimal assignment with exact prices, which prove it, and the sum of its costs
pub record HoldsBest (l : ListedCosts) (before after : Buffers) : Type 0 where
  pub proof : IsOptimum l after.objects after.prices
  pub best : IsBest l.sense l.rows after.objects
  pub sum : after.info ≡ record before.info { total = total l.rows after.objects }
  pub persons : after.persons ≡ before.persons

-- a Hall set, at the beginning of two buffers: there is no assignment
pub record HoldsHall (l : ListedCosts) (before after : Buffers) : Type 0 where
  pub some : List ℕ
  pub few : List ℕ
  pub proof : IsHallSet l.rows some few
  pub none : (xs : List ℕ) → ¬ IsAssignment l.rows xs
  pub persons : after.persons ≡ some ++ drop (length some) before.persons
  pub objects : after.objects ≡ few ++ drop (length few) before.objects
  pub counts : after.info ≡ record before.info { persons = length some; objects = length few }
  pub prices : after.prices ≡ before.prices

-- objects and prices from which the search goes on; the persons and the record of the call stay
pub record HoldsState (before after : Buffers) : Type 0 where
  pub objects : length after.objects ≡ length before.objects
  pub prices : length after.prices ≡ length before.prices
  pub persons : after.persons ≡ before.persons
  pub info : after.info ≡ before.info

-- what the buffers hold at an end
abbrev pub HoldsEnd : ListedCosts → Buffers → Buffers → Found → Type 0
HoldsEnd l before after (Best sum) = HoldsBest l before after
HoldsEnd l before after (Hall set) = HoldsHall l before after
HoldsEnd l before after Stopped = HoldsState before after

-- the buffers with the place of a fault, if it has one; otherwise unchanged
abbrev pub with_place : Fault → Buffers → Buffers
with_place f before =
    record before { info = record before.info { place = fault_place before.info.place f } }

-- an end of the search, or the first fault
abbrev pub IsSolved : InputLists → ℕ → Buffers → Buffers → Result Found Fault → Type 0
IsSolved g budget before after (Ok end) = MayStop budget end × IsOfInput g (λ l. HoldsEnd l before after end)
IsSolved g budget before after (Err f) = HasFault g f × (after ≡ with_place f before)

-- a problem with first prices and with the lengths of buffers
abbrev pub with_buffers : InputLists → List ℤ → Buffers → InputLists
with_buffers g first room = record g {
  by_person = length room.objects ∷ length room.persons ∷ [];
  by_object = length room.prices ∷ [];
  first = first;
}

-- an end of the call that has this code
pub record IsReported (g : InputLists) (budget : ℕ) (before after : Buffers) (code : ℤ) : Type 0 where
  pub end : Result Found Fault
  pub is : code ≡ end_code end
  pub solved : IsSolved g budget before after end

-- the end of a call that solves a problem into these buffers, from first prices and with a budget
abbrev pub Solves : InputLists → List ℤ → ℕ → Buffers → Buffers → ℤ → Type 0
Solves g first budget before after code = IsReported (with_buffers g first before) budget before after code
