-- The sizes of doubles, and their digits.
use Rattle.std.specs.Prelude.{◌≡◌, ℕ, ℤ, pos, neg_ℤ, ◌+◌, ◌*◌, ◌^◌, ◌<◌, ◌≤◌, ◌==◌, if◌then◌else◌}
use lib.Ieee.{Float, nan, inf, fin}
use Rattle.double_costs.specs.Units.{size_in_units, units_of}
use Rattle.double_checker.specs.declared.digits.Digits.{Digits}

-- the size of a finite double in units
abbrev pub size_of : Float → ℕ
size_of nan = 0
size_of (inf s) = 0
size_of (fin s m e) = size_in_units m e

-- the digits with so many binary places after them
abbrev pub size_by : Digits → ℕ
size_by d = d.digits * 2 ^ d.shift

-- the same with the sign
abbrev pub units_by : Digits → ℤ
units_by d = if d.negative then neg_ℤ (pos (size_by d)) else pos (size_by d)

-- the digits of a finite double
pub record AreDigits (x : Float) (d : Digits) : Type 0 where
  pub size : size_of x ≡ size_by d
  pub units : units_of x ≡ units_by d
  pub few : d.digits < 2 ^ 53
  pub near : d.shift ≤ 2045
  pub full : 0 < d.shift → 2 ^ 52 ≤ d.digits

-- by how many places the digits are shifted; for 0 more than for any other
abbrev pub low_shift : Digits → ℕ
low_shift d = if d.digits == 0 then 2046 else d.shift

-- digits that aren't 0 are shifted by low to low + 70 places
pub record AreShiftedBy (low : ℕ) (d : Digits) : Type 0 where
  pub few : d.digits < 2 ^ 53
  pub least : 0 < d.digits → low ≤ d.shift
  pub most : 0 < d.digits → d.shift ≤ 70 + low
