-- One more pair after those that were written.
use Rattle.std.proofs.Common.{◌≡◌, ◌≢◌, ◌⊎◌, ℕ, ℤ, ◌+◌, ◌-◌, ◌<◌, ◌≤◌, List, length, get_or, set, arith, ap, sym, subst, ◌∙◌, inl, inr}
use Rattle.std.proofs.lemmas.List.{get_or-set_other, get_or-set_same, length-set}
use lib.Ieee.{Float, nan}
use Rattle.assign_core.specs.declared.sense.Sense.{Sense}
use Rattle.assign_core.specs.Rows.{Listing}
use Rattle.assign_core.proofs.NumberedLemmas.{low_or_same}
use Rattle.block_checker.proofs.Written.{rest_stays}
use Rattle.block_doubles.specs.Pairs.{AreWritten, IsBetterPair, IsLower, PairLists}
use Rattle.block_doubles.specs.inside.Rising.{IsNext}

lower_of_lower : (a b i j k l : ℕ) → IsLower a b i j → IsLower i j k l → IsLower a b k l
lower_of_lower a b i j k l (inl x) (inl y) = inl (omega arith)
lower_of_lower a b i j k l (inl x) (inr y) = let e = y.0 in inl (omega arith)
lower_of_lower a b i j k l (inr x) (inl y) = let e = x.0 in inl (omega arith)
lower_of_lower a b i j k l (inr x) (inr y) =
    let e = x.0 in let f = y.0 in let g = x.1 in let h = y.1 in inr (omega arith, omega arith)

module _ (sense : Sense) (rows : List Listing) (prices numbers : List ℤ) (most count : ℕ) (before after : PairLists) (i j : ℕ) (c : Float)
    (h : AreWritten sense rows prices numbers most count before after) (objects_long : length after.objects ≡ length after.persons)
    (costs_long : length after.costs ≡ length after.persons) (next : IsNext after.persons after.objects most count i j) where
  -- each written pair is lower than the next one
  rises : (p : ℕ) → p < count → IsLower (get_or after.persons p 0) (get_or after.objects p 0) i j
  rises p lt = elim next.after [
    | inl none ↦ absurd (omega arith)
    | inr last ↦ elim (low_or_same p (count - 1) (omega arith)) [
      | inl below ↦ lower_of_lower (get_or after.persons p 0) (get_or after.objects p 0) (get_or after.persons (count - 1) 0)
          (get_or after.objects (count - 1) 0) i j (h.rise p (count - 1) below (omega arith)) last
      | inr same ↦ subst (λ (k : ℕ). IsLower (get_or after.persons k 0) (get_or after.objects k 0) i j) (sym same) last
    ]
  ]

  person_before : (q : ℕ) → q < count → get_or (set after.persons count i) q 0 ≡ get_or after.persons q 0
  person_before q lt = let other : q ≢ count = omega arith in get_or-set_other after.persons count q i 0 other

  object_before : (q : ℕ) → q < count → get_or (set after.objects count j) q 0 ≡ get_or after.objects q 0
  object_before q lt = let other : q ≢ count = omega arith in get_or-set_other after.objects count q j 0 other

  cost_before : (q : ℕ) → q < count → get_or (set after.costs count c) q nan ≡ get_or after.costs q nan
  cost_before q lt = let other : q ≢ count = omega arith in get_or-set_other after.costs count q c nan other

  person_here : (q : ℕ) → q ≡ count → get_or (set after.persons count i) q 0 ≡ i
  person_here q same = ap (λ (k : ℕ). get_or (set after.persons count i) k 0) same ∙ get_or-set_same after.persons count i 0 next.room

  object_here : (q : ℕ) → q ≡ count → get_or (set after.objects count j) q 0 ≡ j
  object_here q same =
      let room = next.room in
      ap (λ (k : ℕ). get_or (set after.objects count j) k 0) same ∙ get_or-set_same after.objects count j 0 (omega arith)

  cost_here : (q : ℕ) → q ≡ count → get_or (set after.costs count c) q nan ≡ c
  cost_here q same =
      let room = next.room in
      ap (λ (k : ℕ). get_or (set after.costs count c) k nan) same ∙ get_or-set_same after.costs count c nan (omega arith)

  -- the first one of so many pairs is of another person
  other_person : (q : ℕ) → q + most ≡ count → get_or after.persons q 0 < i
  other_person q same =
      let e : count - most ≡ q = omega arith in
      subst (λ (k : ℕ). get_or after.persons k 0 < i) e (next.few (omega arith))

  pub written_more : IsBetterPair sense rows prices numbers i j c →
      AreWritten sense rows prices numbers most (count + 1) before
      (record { persons = set after.persons count i; objects = set after.objects count j; costs = set after.costs count c })
  written_more pair = record {
    few = let room = next.room in let same = length-set after.persons count i in omega arith;
    better = λ q lt. elim (low_or_same q count lt) [
      | inl below ↦ rw (person_before q below, object_before q below, cost_before q below) (h.better q below)
      | inr same ↦ rw (person_here q same, object_here q same, cost_here q same) pair
    ];
    rise = λ p q lower lt. elim (low_or_same q count lt) [
      | inl below ↦
          let first : p < count = omega arith in
          rw (person_before p first, object_before p first, person_before q below, object_before q below) (h.rise p q lower below)
      | inr same ↦
          let first : p < count = omega arith in
          rw (person_before p first, object_before p first, person_here q same, object_here q same) (rises p first)
    ];
    at_most = λ q lt. elim (low_or_same (q + most) count lt) [
      | inl below ↦
          let first : q < count = omega arith in
          rw (person_before q first, person_before (q + most) below) (h.at_most q below)
      | inr same ↦
          let some = next.some in
          let first : q < count = omega arith in
          rw (person_before q first, person_here (q + most) same) (other_person q same)
    ];
    persons = rest_stays after.persons before.persons count i h.persons;
    objects = rest_stays after.objects before.objects count j h.objects;
    costs = rest_stays after.costs before.costs count c h.costs;
  }
