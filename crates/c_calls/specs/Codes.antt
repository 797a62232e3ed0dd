-- The codes of faults.
use Rattle.std.specs.Prelude.{ℕ, ℤ, pos}
use Rattle.c_calls.specs.declared.fault.Fault.{Fault}
use Rattle.c_calls.specs.declared.fault.Fault.TheVariants.{Sense, Size, Length, Person, Object, Cost, Price, Memory}

-- the code of a fault
abbrev pub fault_code : Fault → ℤ
fault_code Sense = pos 2
fault_code Size = pos 3
fault_code Length = pos 4
fault_code (Person k) = pos 5
fault_code (Object k) = pos 6
fault_code (Cost k) = pos 7
fault_code (Price k) = pos 8
fault_code Memory = pos 9

-- the place that a fault names, or the earlier place if it names none
abbrev pub fault_place : ℕ → Fault → ℕ
fault_place before (Person k) = k
fault_place before (Object k) = k
fault_place before (Cost k) = k
fault_place before (Price k) = k
fault_place before Sense = before
fault_place before Size = before
fault_place before Length = before
fault_place before Memory = before
