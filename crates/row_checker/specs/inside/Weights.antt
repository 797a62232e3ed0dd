-- Lists of weights.
use Rattle.std.specs.Prelude.{ℕ, ◌+◌, ℤ, List, [], ◌∷◌, Bool, false, ◌==◌, ◌||◌}
use Rattle.row_checker.specs.Leaves.{above_0}

-- the sum of the weights above 0
abbrev pub greatest_in : List ℤ → ℕ
greatest_in [] = 0
greatest_in (w ∷ weights) = above_0 w + greatest_in weights

-- k is one of the numbers
abbrev pub is_among : ℕ → List ℕ → Bool
is_among k [] = false
is_among k (j ∷ numbers) = (j == k) || is_among k numbers
