-- Row numbers that no sum is below.
use Rattle.std.proofs.Common.{◌≡◌, ℕ, ℤ, pos, ◌-◌, ◌≤ℤ◌, ◌<◌, List, Option, None, Some, IsSome, MatchOption, length, get_or, refl, arith, sym, subst}
use Rattle.std.proofs.lemmas.Int.{ints, by_lt_z}
use Rattle.assign_core.specs.declared.sense.Sense.{Sense}
use Rattle.assign_core.specs.Numbered.{numbered}
use Rattle.assign_core.specs.Rows.{Listing}
use Rattle.assign_core.proofs.Listed.{listing_within}
use Rattle.assign_core.proofs.NumberedLemmas.{numbered-index}
use Rattle.cost_lists.specs.Blocks.{IsBounded, reduced_sum}
use Rattle.exact_checker.specs.Under.{IsUnder}
use Rattle.block_checker.specs.Sums.{AreLeastSums}

-- numbers up to the least sums bound all pairs
pub bounded_by_least : (sense : Sense) (rows : List Listing) (prices numbers least : List ℤ) → AreLeastSums sense rows prices least →
    length numbers ≡ length rows → ((i : ℕ) → i < length least → get_or numbers i (pos 0) ≤ℤ get_or least i (pos 0)) → IsBounded sense rows prices numbers
bounded_by_least sense rows prices numbers least are same h i j c e =
    let number = listing_within rows i j (subst IsSome (sym e) refl) in
    let first = number.first in
    let last = number.last in
    let long = are.long in
    let low = (are.each i number).none_below j c e in
    let up_to = h (i - 1) (omega arith) in
    let a = numbered-index numbers i (pos 0) (pos 0) first (omega arith) in
    let b = numbered-index least i (pos 0) (pos 0) first (omega arith) in
    omega (arith, ints)

-- where no sum is below, the numbers bound all pairs
pub bounded_unless : (sense : Sense) (rows : List Listing) (prices numbers : List ℤ) (P : ℕ × ℕ → Type 0) (f : Option (ℕ × ℕ)) →
    MatchOption f ((i k : ℕ) → ¬ IsUnder sense rows prices numbers i k) P → MatchOption f (IsBounded sense rows prices numbers) P
bounded_unless sense rows prices numbers P None h = λ i j c e.
    by_lt_z {P = numbered numbers i (pos 0) ≤ℤ reduced_sum sense prices j c} (reduced_sum sense prices j c) (numbered numbers i (pos 0))
    (λ lt. absurd (h i j (record { cost = c; listed = e; under = lt }))) (λ le. le)
bounded_unless sense rows prices numbers P (Some p) h = h
