-- What whole multiples of rows show: weak duality.
use Rattle.std.specs.Prelude.{ℕ, zero, suc, ◌+◌, ◌*◌, ◌^◌, nat_lt, ℤ, pos, negsuc, ◌+ℤ◌, ◌*ℤ◌, List, [], ◌∷◌, ◌++◌}
use Rattle.std.specs.Prelude.{Bool, int_lt, if◌then◌else◌, ◌==◌, ◌&&◌, is_some, true}
use Rattle.std.specs.Option.{unwrap_or}
use Rattle.std.specs.Int.RustNames.{unsigned_abs}
use Rattle.row_checker.specs.declared.row.Multiple.{Multiple}
use Rattle.row_checker.specs.declared.leaf.LeafEnd.{LeafEnd}
use Rattle.row_checker.specs.declared.leaf.LeafEnd.TheVariants.{Shows, TooGreat, Lacks}
use Rattle.row_checker.specs.Rows.{LinearRow, row_at, side_of}

-- the sum of variable k's coefficients
abbrev pub coefficient : ℕ → List Multiple → ℤ
coefficient k [] = pos 0
coefficient k (t ∷ terms) = (if t.of == k then t.times else pos 0) +ℤ coefficient k terms

-- the weight of variable k: the sum over the rows of multiplier * coefficient of k
abbrev pub weight : List LinearRow → List Multiple → ℕ → ℤ
weight rows [] k = pos 0
weight rows (m ∷ ms) k = (m.times *ℤ coefficient k (row_at rows m.of).terms) +ℤ weight rows ms k

-- a number if it is above 0, otherwise 0
abbrev pub above_0 : ℤ → ℕ
above_0 (pos n) = n
above_0 (negsuc n) = 0

-- the greatest sum of the first n weights that a plan can reach: the sum of those above 0
abbrev pub greatest : ℕ → (ℕ → ℤ) → ℕ
greatest zero w = 0
greatest (suc n) w = above_0 (w 0) + greatest n (λ k. w (suc k))

-- the bound that a multiple of a row takes, 0 where it isn't there
abbrev pub side_or_0 : List LinearRow → Multiple → ℤ
side_or_0 rows m = unwrap_or (side_of (row_at rows m.of) m.times) (pos 0)

-- each multiple takes a bound that is there
abbrev pub has_sides : List LinearRow → List Multiple → Bool
has_sides rows [] = true
has_sides rows (m ∷ ms) = is_some (side_of (row_at rows m.of) m.times) && has_sides rows ms

-- the sum over the rows of multiplier * bound
abbrev pub bound : List LinearRow → List Multiple → ℤ
bound rows [] = pos 0
bound rows (m ∷ ms) = (m.times *ℤ side_or_0 rows m) +ℤ bound rows ms

-- the sum of |multiplier * coefficient| over the terms of a row
abbrev pub terms_size : ℤ → List Multiple → ℕ
terms_size times [] = 0
terms_size times (t ∷ terms) = unsigned_abs times * unsigned_abs t.times + terms_size times terms

-- the sum of all |multiplier * coefficient| and |multiplier * bound|
abbrev pub size : List LinearRow → List Multiple → ℕ
size rows [] = 0
size rows (m ∷ ms) =
    terms_size m.times (row_at rows m.of).terms + unsigned_abs m.times * unsigned_abs (side_or_0 rows m)
    + size rows ms

-- the variables of the rows that are taken
abbrev pub variables : List Multiple → List ℕ
variables [] = []
variables (t ∷ terms) = t.of ∷ variables terms

abbrev pub touched_by : List LinearRow → List Multiple → List ℕ
touched_by rows [] = []
touched_by rows (m ∷ ms) = variables (row_at rows m.of).terms ++ touched_by rows ms

-- what the multiples show of plans for n variables: that none meets the rows, if the greatest weighed
-- sum is below the bound. Numbers that are too great aren't judged
abbrev pub end_of : ℕ → List LinearRow → List Multiple → LeafEnd
end_of n rows ms =
    if nat_lt (size rows ms) (2 ^ 127)
    then (if has_sides rows ms && int_lt (pos (greatest n (weight rows ms))) (bound rows ms) then Shows else Lacks)
    else TooGreat
