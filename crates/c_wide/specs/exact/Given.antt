-- The doubles that a caller gives, their faults, and the same problem in units.
use Rattle.std.specs.Prelude.{◌≡◌, ℕ, ℤ, pos, ◌-ℤ◌, ◌*ℤ◌, ◌^◌, ◌⊎◌, All}
use Rattle.assign_core.specs.declared.sense.Sense.{Sense as Wanted}
use Rattle.cost_lists.specs.ListedCosts.{ListedCosts}
use Rattle.double_costs.specs.Margins.{AreRowsBeside}
use Rattle.c_calls.specs.declared.fault.Fault.{Fault}
use Rattle.c_calls.specs.declared.fault.Fault.TheVariants.{Sense, Size, Length, Person, Object, Cost, Price, Memory}
use Rattle.c_calls.specs.doubles.Faults.{HasFault, IsFaultless, IsShape, IsWhole}
use Rattle.c_calls.specs.doubles.Input.{InputDoubles, rows_in}
use Rattle.c_wide.specs.declared.exact.judge.Judged.{Judged}
use Rattle.c_wide.specs.exact.Units.{IsFirstAbove, IsGreatestUnit, IsWithin}

-- a finite cost, in units of 2 ^ -1074, and the same cost in units of 2 ^ (e - 1074)
abbrev pub IsScaled : ℕ → ℤ → ℤ → Type 0
IsScaled e c z = c ≡ pos (2 ^ e) *ℤ z

-- the same problem in the greatest unit of its costs, which is 2 ^ unit: the same pairs, each at its cost
pub record IsInUnit (g : InputDoubles) (sense : Wanted) (unit : ℤ) (l : ListedCosts) : Type 0 where
  pub e : ℕ
  pub is : unit ≡ pos e -ℤ pos 1074
  pub greatest : IsGreatestUnit e g.costs
  pub wanted : l.sense ≡ sense
  pub objects : l.m ≡ g.m
  pub rows : AreRowsBeside (IsScaled e) (rows_in g) l.rows

-- what holds of a given problem without a fault, under the requested sense and in its unit
pub record IsOfExact (g : InputDoubles) (unit : ℤ) (Holds : ListedCosts → Type 0) : Type 0 where
  pub sense : Wanted
  pub whole : IsWhole g sense
  pub lists : ListedCosts
  pub same : IsInUnit g sense unit lists
  pub holds : Holds lists

-- no fault, and no cost is above 2 ^ 100 units
pub record IsExactWhole (g : InputDoubles) : Type 0 where
  pub fine : IsFaultless g
  pub e : ℕ
  pub greatest : IsGreatestUnit e g.costs
  pub within : All (IsWithin e) g.costs

-- the sense, the size and the unit of a given problem without a fault
pub record IsJudgedBy (g : InputDoubles) (j : Judged) : Type 0 where
  pub shape : IsShape g j.shape
  pub whole : IsWhole g j.shape.sense
  pub greatest : IsGreatestUnit j.unit g.costs
  pub within : All (IsWithin j.unit) g.costs

-- the first fault in the order of the variants; a double that is no cost comes before one that is above
-- 2 ^ 100 units
abbrev pub HasExactFault : InputDoubles → Fault → Type 0
HasExactFault g Sense = HasFault g Sense
HasExactFault g Size = HasFault g Size
HasExactFault g Length = HasFault g Length
HasExactFault g (Person k) = ⊥
HasExactFault g (Object k) = ⊥
HasExactFault g (Cost k) = HasFault g (Cost k) ⊎ (IsFaultless g × IsFirstAbove g.costs k)
HasExactFault g (Price k) = ⊥
HasExactFault g Memory = IsExactWhole g
