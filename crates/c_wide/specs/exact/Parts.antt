-- Doubles as odd numbers times powers of two.
use Rattle.std.specs.Prelude.{◌≡◌, ℕ, ℤ, pos, neg_ℤ, ◌*◌, ◌^◌, ◌%◌, ◌<◌, ◌≤◌, ◌⊎◌, if◌then◌else◌}
use lib.Ieee.{Float}
use Rattle.double_costs.specs.Units.{units_of}
use Rattle.c_wide.specs.declared.exact.parts.Parts.{Parts}

-- the size in units of 2 ^ -1074
abbrev pub size_by : Parts → ℕ
size_by p = p.significand * 2 ^ p.exponent

-- the same with the sign
abbrev pub units_by : Parts → ℤ
units_by p = if p.negative then neg_ℤ (pos (size_by p)) else pos (size_by p)

-- a finite double: an odd number, or 0, times a power of two
pub record ArePartsOf (x : Float) (p : Parts) : Type 0 where
  pub units : units_of x ≡ units_by p
  pub few : p.significand < 2 ^ 53
  pub odd : (p.significand ≡ 0) ⊎ (p.significand % 2 ≡ 1)
  pub near : p.exponent ≤ 2098
