use Rattle.std.proofs.Common.{◌≡◌, ℕ, ◌+◌, List, map, sym, subst, arith, ◌∙◌}
use Rattle.std.specs.List.{range_with_len}
use Rattle.std.specs.List.Sorted.{IsStrictlyIncreasing}
use Rattle.std.proofs.lemmas.List.{map-id}
use Rattle.std.proofs.lemmas.List.FromFn.{get_or-range_with_len, length-range_with_len}
use Rattle.auction_tests.proofs.problems.all_for_less.Goals as goal

range_rises : (n : ℕ) → IsStrictlyIncreasing (range_with_len 1 n)
range_rises n k lt =
    let long = length-range_with_len 1 n in
    let here = get_or-range_with_len 1 n k 0 (omega arith) in
    let next = get_or-range_with_len 1 n (k + 1) 0 (omega arith) in
    omega arith

rises : (numbers : List ℕ) (n : ℕ) → map (λ i. i) numbers ≡ map (λ i. i) (range_with_len 1 n) → IsStrictlyIncreasing numbers
rises numbers n e = subst IsStrictlyIncreasing (sym (sym (map-id numbers) ∙ e ∙ map-id (range_with_len 1 n))) (range_rises n)

pub new-requires-clause-persons : goal.new-requires-clause-persons
new-requires-clause-persons c = rises c.in_ok-persons.persons.items 8192 c.in_ok-persons.ensures

pub new-requires-clause-objects : goal.new-requires-clause-objects
new-requires-clause-objects c = rises c.in_ok-objects.objects.items 8191 c.in_ok-objects.ensures
