-- How great a value may be without changing the best two.
use Rattle.std.specs.Prelude.{◌≡◌, ℤ, pos, neg_ℤ, ◌≤ℤ◌, ◌<ℤ◌, ◌^◌, Option, Some}

-- a value above the least of 64 bits, but not above the limit, isn't above the second value
abbrev pub IsLimit : Option ℤ → ℤ → Type 0
IsLimit second limit =
    (v : ℤ) → neg_ℤ (pos (2 ^ 63)) <ℤ v → v ≤ℤ limit → (w : ℤ) × (second ≡ Some w) × (v ≤ℤ w)
