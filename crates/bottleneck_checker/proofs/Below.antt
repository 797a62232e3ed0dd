-- Values and prices by marks, and what no sum below a value shows.
use Rattle.std.proofs.Common.{◌≡◌, ◌↔◌, ℕ, ℤ, pos, ◌<ℤ◌, ◌<◌, ◌+◌, suc, zero, List, [], Some, IsSome, Bool, true, false, length, get_or, replicate, cond}
use Rattle.std.proofs.Common.{inl, inr, ◌⊎◌, refl, arith, ap, sym, subst, ◌∙◌}
use Rattle.std.specs.List.{All, Contains}
use Rattle.std.proofs.lemmas.Int.{ints}
use Rattle.std.proofs.lemmas.List.{get_or-replicate}
use Rattle.std.proofs.lemmas.List.Elements.{All-from_get_or}
use Rattle.assign_core.specs.declared.sense.Sense.{Sense}
use Rattle.assign_core.specs.declared.sense.Sense.TheVariants.{Min, Max}
use Rattle.assign_core.specs.Numbered.{IsMarked, IsNumber, numbered}
use Rattle.assign_core.specs.Prices.{price_of}
use Rattle.assign_core.specs.Rows.{HasCosts, IsCost, IsListed, IsWithin, listed_in, row_of}
use Rattle.assign_core.proofs.Listed.{entry_found, listing_within, object_within}
use Rattle.assign_core.proofs.NumberedLemmas.{All-numbered, numbered-replicate}
use Rattle.dual_checker.specs.HallMarks.{AddsMarks}
use Rattle.cost_lists.specs.Exact.{IsPriceInLimits}
use Rattle.cost_lists.specs.ListedCosts.{AreInLimits, ListedCosts}
use Rattle.cost_lists.specs.Own.{minimised}
use Rattle.cost_lists.proofs.Owns.{turned_range}
use Rattle.exact_checker.specs.Faults.{IsBetter}
use Rattle.exact_checker.specs.Under.{IsUnder}
use Rattle.bottleneck_checker.specs.Bottleneck.{AreShort}
use Rattle.bottleneck_checker.specs.declared.short.TheConstants.{EXPENSIVE, LOWEST}
use Rattle.bottleneck_checker.specs.inside.Marks.{AreFewer, AreSet, NoneBelow}

-- what stands at a number of a list that was set
set_there : (before : List ℤ) (marks : List Bool) (value : ℤ) (after : List ℤ) (j : ℕ) → AreSet before marks value after →
    0 < j → j < length after + 1 → IsMarked marks j → numbered after j (pos 0) ≡ value
set_there before marks value after zero h some last mark = absurd (omega arith)
set_there before marks value after (suc k) h some last mark = h k (omega arith) ∙ ap (λ b. cond b value (get_or before k (pos 0))) mark

set_beside : (before : List ℤ) (marks : List Bool) (value : ℤ) (after : List ℤ) (j : ℕ) (n : ℕ) (first : ℤ) → AreSet before marks value after →
    before ≡ replicate n first → length after ≡ n → 0 < j → j < n + 1 → numbered marks j false ≡ false → numbered after j (pos 0) ≡ first
set_beside before marks value after zero n first h were long some last mark = absurd (omega arith)
set_beside before marks value after (suc k) n first h were long some last mark =
    h k (omega arith) ∙ ap (λ b. cond b value (get_or before k (pos 0))) mark ∙ ap (λ xs. get_or xs k (pos 0)) were
    ∙ get_or-replicate n k first (pos 0) (omega arith)

marked_or_not : (b : Bool) → (b ≡ true) ⊎ (b ≡ false)
marked_or_not true = inl refl
marked_or_not false = inr refl

module _ (l : ListedCosts) (chosen named : List Bool) (worst : ℤ) (values prices values_before prices_before : List ℤ)
    (limits : AreInLimits l) (range : IsCost worst)
    (values_were : values_before ≡ replicate (length l.rows) LOWEST) (prices_were : prices_before ≡ replicate l.m (pos 0))
    (values_long : length values ≡ length l.rows) (prices_long : length prices ≡ l.m)
    (values_are : AreSet values_before chosen worst values) (prices_are : AreSet prices_before named EXPENSIVE prices) where
  value_or : (i : ℕ) → IsNumber (length l.rows) i → (IsMarked chosen i × (numbered values i (pos 0) ≡ worst)) ⊎ (numbered values i (pos 0) ≡ LOWEST)
  value_or i number =
      let some = number.first in
      let last = number.last in
      elim (marked_or_not (numbered chosen i false)) [
        | inl mark ↦ inl (mark, set_there values_before chosen worst values i values_are some (omega arith) mark)
        | inr none ↦ inr (set_beside values_before chosen worst values i (length l.rows) LOWEST values_are values_were values_long some (omega arith) none)
      ]

  price_or : (j : ℕ) → IsNumber l.m j → (IsMarked named j × (price_of prices j ≡ EXPENSIVE)) ⊎ (price_of prices j ≡ pos 0)
  price_or j number =
      let some = number.first in
      let last = number.last in
      elim (marked_or_not (numbered named j false)) [
        | inl mark ↦ inl (mark, set_there prices_before named EXPENSIVE prices j prices_are some (omega arith) mark)
        | inr none ↦ inr (set_beside prices_before named EXPENSIVE prices j l.m (pos 0) prices_are prices_were prices_long some (omega arith) none)
      ]

  pub prices_in : All IsPriceInLimits prices
  prices_in = All-from_get_or IsPriceInLimits prices (pos 0) (λ k lt.
      elim (price_or (suc k) (record { first = omega arith; last = omega arith })) [
        | inl expensive ↦ let e = expensive.1 in record { least = omega (arith, ints); greatest = omega (arith, ints) }
        | inr free ↦ record { least = omega (arith, ints, free); greatest = omega (arith, ints, free) }
      ])

  module _ (i k : ℕ) (c : ℤ) (at : listed_in (row_of l.rows i) k ≡ Some c) where
    seen : IsListed l.rows i k
    seen = subst (λ o. IsSome o) (sym at) refl

    person : IsNumber (length l.rows) i
    person = listing_within l.rows i k seen

    object : IsNumber l.m k
    object = object_within l.m (row_of l.rows i) k (All-numbered (IsWithin l.m) l.rows i [] limits.within person.first person.last) seen

    cost : IsCost (minimised l.sense c)
    cost = turned_range l.sense c (entry_found (λ f. IsCost f.1) (row_of l.rows i) k c (All-numbered HasCosts l.rows i [] limits.costs person.first person.last) at)

  to_marks : ((i k : ℕ) → ¬ IsUnder l.sense l.rows prices values i k) → NoneBelow l chosen named worst
  to_marks none i k c mark at below =
      let number = person i k c at in
      let some = number.first in
      let last = number.last in
      elim (price_or k (object i k c at)) [
        | inl expensive ↦ expensive.0
        | inr free ↦
            let value = set_there values_before chosen worst values i values_are some (omega arith) mark in
            absurd (none i k (record { cost = c; listed = at; under = omega (arith, ints, free, value, below) }))
      ]

  from_marks : NoneBelow l chosen named worst → (i k : ℕ) → ¬ IsUnder l.sense l.rows prices values i k
  from_marks none i k u =
      let number = person i k u.cost u.listed in
      let range_c = cost i k u.cost u.listed in
      let least = range_c.least in
      let most = range.greatest in
      let under = u.under in
      elim (value_or i number) [
        | inr low ↦ elim (price_or k (object i k u.cost u.listed)) [
          | inl expensive ↦ let e = expensive.1 in omega (arith, ints, low)
          | inr free ↦ omega (arith, ints, low, free)
        ]
        | inl marked ↦
            let value = marked.1 in
            elim (price_or k (object i k u.cost u.listed)) [
              | inl expensive ↦ let e = expensive.1 in omega (arith, ints)
              | inr free ↦
                  let mark = none i k u.cost marked.0 u.listed (omega (arith, ints, free)) in
                  let some = (object i k u.cost u.listed).first in
                  let last = (object i k u.cost u.listed).last in
                  let expensive = set_there prices_before named EXPENSIVE prices k prices_are some (omega arith) mark in
                  omega (arith, ints, free)
            ]
      ]

  pub below_same : ((i k : ℕ) → ¬ IsUnder l.sense l.rows prices values i k) ↔ NoneBelow l chosen named worst
  below_same = (to_marks, from_marks)

better_turned : (sense : Sense) (c w : ℤ) → IsBetter sense c (minimised sense w) → minimised sense c <ℤ w
better_turned Min c w h = h
better_turned Max c w h = omega (arith, ints)

turned_better : (sense : Sense) (c w : ℤ) → minimised sense c <ℤ w → IsBetter sense c (minimised sense w)
turned_better Min c w h = h
turned_better Max c w h = omega (arith, ints)

-- marks of lists
module _ (l : ListedCosts) (worst : ℤ) (persons objects : List ℕ) (fewer : AreFewer l persons objects) (before_chosen before_named chosen named : List Bool)
    (chosen_were : before_chosen ≡ replicate (length l.rows) false) (named_were : before_named ≡ replicate l.m false)
    (chosen_are : AddsMarks before_chosen (Contains persons) chosen) (named_are : AddsMarks before_named (Contains objects) named) where
  of_new : (before : List Bool) (n : ℕ) (j : ℕ) (P : Type 0) → before ≡ replicate n false → IsMarked before j ⊎ P → P
  of_new before n j P were (inl m) =
      let none = numbered-replicate n j false in
      let e = sym (ap (λ b. numbered b j false) were) ∙ m in
      absurd cc
  of_new before n j P were (inr h) = h

  pub short_same : NoneBelow l chosen named worst ↔ AreShort l.sense l.m l.rows (minimised l.sense worst) persons objects
  short_same = (
    (λ none. record {
      persons_rise = fewer.persons_rise;
      objects_rise = fewer.objects_rise;
      persons_in = fewer.persons_in;
      objects_in = fewer.objects_in;
      only = λ i j c has at better. of_new before_named l.m j (Contains objects j) named_were
          ((named_are j).0 (none i j c ((chosen_are i).1 (inr has)) at (better_turned l.sense c worst better)));
      fewer = fewer.fewer;
    }),
    (λ short i k c mark at below. (named_are k).1 (inr (short.only i k c
        (of_new before_chosen (length l.rows) i (Contains persons i) chosen_were ((chosen_are i).0 mark)) at (turned_better l.sense c worst below)))),
  )
