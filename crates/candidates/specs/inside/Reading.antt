-- Candidates while a row is read at 64-bit prices.
use Rattle.std.specs.Prelude.{◌≡◌, ℕ, ℤ, pos, neg_ℤ, ◌-ℤ◌, ◌≤ℤ◌, ◌<ℤ◌, ◌^◌, ◌<◌, ◌≤◌, List, Option, Some, All}
use Rattle.assign_core.specs.Rows.{Listing}
use Rattle.assign_core.specs.Prices.{price_of}
use Rattle.candidates.specs.declared.mark.Mark.{Mark}
use Rattle.candidates.specs.Marks.{IsUpTo}
use Rattle.candidates.specs.Candidates.{CandidateList, AreCandidates}

-- a value above the least of 64 bits, but not above the limit, is at most the bound's, whose object
-- isn't above this one
abbrev pub IsLimitAfter : Option Mark → ℕ → ℤ → Type 0
IsLimitAfter bound object limit =
    (v : ℤ) → neg_ℤ (pos (2 ^ 63)) <ℤ v → v ≤ℤ limit →
    (mark : Mark) × (bound ≡ Some mark) × (v ≤ℤ mark.value) × (mark.object ≤ object)

-- an object above those of the row doesn't come before the bound if its value is above the least of
-- 64 bits, but not above the limit
abbrev pub IsLimit : Listing → List ℤ → Option Mark → ℤ → Type 0
IsLimit row prices bound limit =
    (j : ℕ) (a : ℤ) → All (λ e. e.0 < j) row → neg_ℤ (pos (2 ^ 63)) <ℤ (a -ℤ price_of prices j) →
    (a -ℤ price_of prices j) ≤ℤ limit → (mark : Mark) × (bound ≡ Some mark) × IsUpTo prices mark (j, a)

-- candidates of the row that was read so far, and a limit for the objects to come
pub record IsReading (row : Listing) (prices : List ℤ) (list : CandidateList) (limit : ℤ) : Type 0 where
  pub candidates : AreCandidates row prices list
  pub rest : IsLimit row prices list.bound limit
