-- What a solving call returns, and what it writes into the buffers.
use Rattle.std.specs.Prelude.{◌≡◌, ℕ, ℤ, pos, List, [], ◌∷◌, Result, Ok, Err, Bool, length, drop, ◌++◌, if◌then◌else◌}
use lib.Ieee.{Float}
use Rattle.assign_core.specs.declared.sense.Sense.{Sense}
use Rattle.c_calls.specs.declared.fault.Fault.{Fault}
use Rattle.c_calls.specs.declared.doubles.info.DoublesInfo.{DoublesInfo}
use Rattle.c_calls.specs.declared.doubles.answer.Answer.{Answer}
use Rattle.c_calls.specs.declared.doubles.answer.Answer.TheVariants.{Best, Hall, Undecided}
use Rattle.c_calls.specs.doubles.Answers.{IsBestBy, IsForbidden}
use Rattle.c_calls.specs.Codes.{fault_code, fault_place}
use Rattle.c_calls.specs.doubles.Faults.{HasFault, IsWhole}
use Rattle.c_calls.specs.doubles.Input.{InputDoubles}

-- the code of an end
abbrev pub end_code : Result Answer Fault → ℤ
end_code (Ok (Best plan)) = pos 0
end_code (Ok (Hall set)) = pos 1
end_code (Ok Undecided) = pos 23
end_code (Err f) = fault_code f

-- the caller's buffers
pub record Buffers : Type 0 where
  pub objects : List ℕ
  pub persons : List ℕ
  pub prices : List Float
  pub info : DoublesInfo

-- the caller's buffers with these lists and this record
abbrev pub buffers : List ℕ → List ℕ → List Float → DoublesInfo → Buffers
buffers objects persons prices info =
    record { objects = objects; persons = persons; prices = prices; info = info }

-- 1 or 0
abbrev pub flag : Bool → ℕ
flag by_margin = if by_margin then 1 else 0

-- an optimal plan with prices that prove it
pub record HoldsBest (g : InputDoubles) (sense : Sense) (before after : Buffers) : Type 0 where
  pub by_margin : Bool
  pub proof : IsBestBy g sense after.objects after.prices by_margin
  pub info : after.info ≡ record before.info { by_margin = flag by_margin }
  pub persons : after.persons ≡ before.persons

-- a Hall set, at the beginning of two buffers: there is no plan
pub record HoldsHall (g : InputDoubles) (before after : Buffers) : Type 0 where
  pub some : List ℕ
  pub few : List ℕ
  pub proof : IsForbidden g some few
  pub persons : after.persons ≡ some ++ drop (length some) before.persons
  pub objects : after.objects ≡ few ++ drop (length few) before.objects
  pub counts : after.info ≡ record before.info { persons = length some; objects = length few }
  pub prices : after.prices ≡ before.prices

-- what the buffers hold at an end
abbrev pub HoldsEnd : InputDoubles → Sense → Buffers → Buffers → Answer → Type 0
HoldsEnd g sense before after (Best plan) = HoldsBest g sense before after
HoldsEnd g sense before after (Hall set) = HoldsHall g before after
HoldsEnd g sense before after Undecided = after ≡ before

-- the end of a call on a problem without a fault
pub record IsEnded (g : InputDoubles) (before after : Buffers) (end : Answer) : Type 0 where
  pub sense : Sense
  pub whole : IsWhole g sense
  pub holds : HoldsEnd g sense before after end

-- the buffers with the place of a fault, if it has one; otherwise unchanged
abbrev pub with_place : Fault → Buffers → Buffers
with_place f before =
    record before { info = record before.info { place = fault_place before.info.place f } }

-- an end of the search, or the first fault
abbrev pub IsSolved : InputDoubles → Buffers → Buffers → Result Answer Fault → Type 0
IsSolved g before after (Ok end) = IsEnded g before after end
IsSolved g before after (Err f) = HasFault g f × (after ≡ with_place f before)

-- an end of the call that has this code
pub record IsReported (g : InputDoubles) (before after : Buffers) (code : ℤ) : Type 0 where
  pub end : Result Answer Fault
  pub is : code ≡ end_code end
  pub solved : IsSolved g before after end

-- a problem with the lengths of buffers
abbrev pub with_buffers : ℕ → ℕ → ℕ → List Float → Buffers → InputDoubles
with_buffers sense n m costs room = record {
  sense = sense;
  n = n;
  m = m;
  by_person = length room.objects ∷ length room.persons ∷ [];
  by_object = length room.prices ∷ [];
  costs = costs;
}

-- the end of a call that solves a problem into these buffers
abbrev pub Solves : ℕ → ℕ → ℕ → List Float → Buffers → Buffers → ℤ → Type 0
Solves sense n m costs before after code =
    IsReported (with_buffers sense n m costs before) before after code
