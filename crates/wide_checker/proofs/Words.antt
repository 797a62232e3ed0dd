-- Numbers in two words, one and lists of them.
use Rattle.std.proofs.Common.{◌≡◌, ℕ, ℤ, pos, negsuc, ◌+ℤ◌, ◌*ℤ◌, ◌<◌, ◌^◌, List, length, map, get_or, arith, sym, subst}
use Rattle.std.specs.List.{All}
use Rattle.std.specs.Int.{int_div_euclid, int_rem_euclid}
use Rattle.std.proofs.lemmas.Int.{ints}
use Rattle.std.proofs.lemmas.List.{get_or-map, length-map}
use Rattle.wide_checker.specs.declared.numbers.Wide.{Wide}
use Rattle.wide_checker.specs.WideNumbers.{wide_value}

-- a quotient and its remainder are the number
pub euclid_whole : (z : ℤ) → (int_div_euclid z (pos (2 ^ 64)) *ℤ pos (2 ^ 64)) +ℤ int_rem_euclid z (pos (2 ^ 64)) ≡ z
euclid_whole (pos a) = omega (arith, ints)
euclid_whole (negsuc a) = omega (arith, ints)

zero_words : Wide
zero_words = record { low = 0; high = pos 0 }

-- what holds of each number of a list
pub all_values : (P : ℤ → Type 0) (xs : List Wide) → All (λ w. P (wide_value w)) xs → All P (map wide_value xs)
all_values P xs each i e lt =
    let long = length-map xs wide_value in
    let below : i < length xs = omega arith in
    subst P (sym (get_or-map wide_value xs i zero_words e below)) (each i zero_words below)
