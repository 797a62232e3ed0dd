-- Doubles as whole numbers: each finite double is a whole number of units of 2 ^ -1074.
use Rattle.std.specs.Prelude.{◌≡◌, ℕ, ℤ, pos, neg_ℤ, ◌*◌, ◌/◌, ◌^◌, Bool, true, false, if◌then◌else◌}
use lib.Ieee.{Float, nan, inf, fin, up, down}

-- m * 2 ^ e in units of 2 ^ -1074
abbrev pub size_in_units : ℕ → ℤ → ℕ
size_in_units m e = m * up e * 2 ^ 1074 / down e

-- the number of units that a double is; 0 for an infinity, and for what is no number
abbrev pub units_of : Float → ℤ
units_of nan = pos 0
units_of (inf s) = pos 0
units_of (fin s m e) = if s then neg_ℤ (pos (size_in_units m e)) else pos (size_in_units m e)

-- a double is finite, and it is exactly z units: its sign is that of z, and its size m * 2 ^ e is k units
-- of 2 ^ -1074, with nothing cut off
abbrev pub IsExactly : Float → ℤ → Type 0
IsExactly nan z = ⊥
IsExactly (inf s) z = ⊥
IsExactly (fin s m e) z =
    (k : ℕ) × (z ≡ (if s then neg_ℤ (pos k) else pos k)) × (k * down e ≡ m * up e * 2 ^ 1074)

-- a finite number
abbrev pub is_number : Float → Bool
is_number nan = false
is_number (inf s) = false
is_number (fin s m e) = true
