-- Parts of an exact sum.
use Rattle.std.specs.Prelude.{◌≡◌, ℕ, ℤ, pos, neg_ℤ, ◌*ℤ◌, ◌≤ℤ◌, ◌<ℤ◌, ◌*◌, ◌^◌, ◌⊎◌}
use Rattle.double_checker.specs.declared.sums.Part.{Part}

-- the units of a part
abbrev pub part_units : Part → ℤ
part_units p = pos (2 ^ p.shift) *ℤ p.count

-- a count as that of one double
pub record IsSmall (p : Part) : Type 0 where
  pub low : neg_ℤ (pos (2 ^ 53)) <ℤ p.count
  pub high : p.count <ℤ pos (2 ^ 53)

-- the total is so many times 2 ^ shift or more, and the part says so
pub record IsAboveRoom (room : ℕ) (total : ℤ) (p : Part) : Type 0 where
  pub said : pos (2 ^ 56) ≤ℤ p.count
  pub total_is : pos (2 ^ p.shift * room) ≤ℤ total

pub record IsBelowRoom (room : ℕ) (total : ℤ) (p : Part) : Type 0 where
  pub said : p.count ≤ℤ neg_ℤ (pos (2 ^ 56))
  pub total_is : total ≤ℤ neg_ℤ (pos (2 ^ p.shift * room))

-- the part is the total, or on one side of 0 with it, and far from 0
abbrev pub Tells : ℕ → ℤ → Part → Type 0
Tells room total p = (part_units p ≡ total) ⊎ IsAboveRoom room total p ⊎ IsBelowRoom room total p
