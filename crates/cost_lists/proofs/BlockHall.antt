-- Why blocks that list only few objects for some persons leave no assignment.
use Rattle.std.proofs.Common.{◌≡◌, ℕ, ℤ, ◌<◌, ◌≤◌, ◌-◌, List, [], IsSome, length, get_or, map, nat_eq, arith, sym, subst, ◌∙◌}
use Rattle.std.specs.List.{All, Contains, IsDistinct}
use Rattle.std.specs.List.Sorted.{IsStrictlyIncreasing}
use Rattle.std.proofs.lemmas.List.{get_or-map, length-map}
use Rattle.std.proofs.lemmas.List.Elements.{Contains-get_or}
use Rattle.std.proofs.lemmas.Map.Keys.{apart_from_distinct, IsDistinct-from_apart, below_from_sorted, sorted_from_strictly_increasing}
use Rattle.assign_core.specs.declared.sense.Sense.{Sense}
use Rattle.assign_core.specs.Numbered.{IsNumber, numbered}
use Rattle.assign_core.specs.Rows.{Listing, listed_in, listed_or_zero, row_of}
use Rattle.assign_core.specs.Assignment.{IsAssignment}
use Rattle.assign_core.proofs.HallSets.{few_among}
use Rattle.assign_core.proofs.Listed.{length_zip}
use Rattle.assign_core.proofs.NumberedLemmas.{numbered-index}
use Rattle.assign_core.proofs.Zips.{pair_number}
use Rattle.cost_lists.specs.Blocks.{AreBlocks, Block, SomeHas}
use Rattle.cost_lists.proofs.ExactDuality.{some_cost}

-- the objects that these persons have
abbrev owned : List ℕ → List ℕ → List ℕ
owned xs persons = map (λ i. numbered xs i 0) persons

-- persons whose objects are all in a list are at most as many as the list has
module _ (rows : List Listing) (persons objects xs : List ℕ) (rise : IsStrictlyIncreasing persons) (within : All (IsNumber (length rows)) persons)
    (own : (i : ℕ) → Contains persons i → IsNumber (length rows) i → Contains objects (numbered xs i 0)) (a : IsAssignment rows xs) where
  long : length xs ≡ length rows
  long = sym (length_zip (λ row j. IsSome (listed_in row j)) rows xs a.listed)

  owned_at : (k d : ℕ) → k < length persons → get_or (owned xs persons) k d ≡ numbered xs (get_or persons k 0) 0
  owned_at k d lt = get_or-map (λ i. numbered xs i 0) persons k 0 d lt

  at_place : (i : ℕ) → IsNumber (length rows) i → numbered xs i 0 ≡ get_or xs (i - 1) 0
  at_place i number = let few = number.last in let same = long in numbered-index xs i 0 0 number.first (omega arith)

  same_long : length (owned xs persons) ≡ length persons
  same_long = simp length-map

  distinct : IsDistinct nat_eq (owned xs persons)
  distinct = IsDistinct-from_apart nat_eq (owned xs persons) (λ i k z lt last.
      let same = same_long in
      let whole = long in
      let low : i < length persons = omega arith in
      let high : k < length persons = omega arith in
      let below = below_from_sorted persons i k 0 (sorted_from_strictly_increasing persons rise) lt high in
      let first = within i 0 low in
      let second = within k 0 high in
      let some = first.first in
      let most = second.last in
      rw (owned_at i z low ∙ at_place (get_or persons i 0) first, owned_at k z high ∙ at_place (get_or persons k 0) second)
      (apart_from_distinct nat_eq xs (get_or persons i 0 - 1) (get_or persons k 0 - 1) 0 a.apart (omega arith) (omega arith)))

  among : (j : ℕ) → Contains (owned xs persons) j → Contains objects j
  among j h =
      let same = same_long in
      let lt : h.0 < length persons = omega arith in
      subst (Contains objects) (sym (owned_at h.0 j lt) ∙ h.2)
      (own (get_or persons h.0 0) (Contains-get_or persons h.0 0 lt) (within h.0 0 lt))

  pub few_for_owners : length persons ≤ length objects
  few_for_owners = let few = few_among (owned xs persons) objects distinct among in let same = same_long in omega arith

pub few_for_persons : (sense : Sense) (rows : List Listing) (blocks : List Block) (persons objects xs : List ℕ) →
    AreBlocks sense rows blocks → IsStrictlyIncreasing persons → All (IsNumber (length rows)) persons →
    ((i j : ℕ) (c : ℤ) → Contains persons i → SomeHas blocks i j c → Contains objects j) → IsAssignment rows xs → length persons ≤ length objects
few_for_persons sense rows blocks persons objects xs are rise within only a = few_for_owners rows persons objects xs rise within (λ i has number.
    let seen = pair_number (λ row x. IsSome (listed_in row x)) rows xs i [] 0 a.listed number.first number.last in
    let some = are.each i (numbered xs i 0) (listed_or_zero (row_of rows i) (numbered xs i 0)) (some_cost (listed_in (row_of rows i) (numbered xs i 0)) seen) in
    only i (numbered xs i 0) (listed_or_zero (row_of rows i) (numbered xs i 0)) has some) a
