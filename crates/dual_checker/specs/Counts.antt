-- How often each of the numbers 1, 2, .. is in a list.
use Rattle.std.specs.Prelude.{◌≡◌, ℕ, ◌==◌, List, length, count_by}
use Rattle.assign_core.specs.Numbered.{IsNumber, numbered}

-- for each of its numbers, the table has how often the number is in the list
abbrev pub AreCounts : List ℕ → List ℕ → Type 0
AreCounts counts xs = (j : ℕ) → IsNumber (length counts) j → numbered counts j 0 ≡ count_by (λ x. x == j) xs
