-- The costs of persons' own objects, from listed pairs one after another, and their sum.
use Rattle.std.proofs.Common.{◌≡◌, ℕ, ℤ, pos, neg_ℤ, ◌+ℤ◌, ◌≤ℤ◌, ◌<ℤ◌, ◌<◌, ◌+◌, ◌-◌, zero, suc, List, [], ◌∷◌, Option, None}
use Rattle.std.proofs.Common.{Some, IsSome, unwrap_or, length, get_or, set, replicate, refl, rules, ap, arith, sym}
use Rattle.std.proofs.Common.{subst, ◌∙◌, inl, inr, ◌⊎◌, fold}
use Rattle.std.specs.List.{All, Contains}
use Rattle.std.specs.Int.{int_min}
use Rattle.std.proofs.lemmas.Int.{ints, clamps, by_lt_z}
use Rattle.std.proofs.lemmas.Bool.Decides.{eqb_tells}
use Rattle.std.proofs.lemmas.List.{length-set, get_or-set_same, get_or-set_other, get_or_default}
use Rattle.assign_core.specs.declared.sense.Sense.{Sense}
use Rattle.assign_core.specs.declared.sense.Sense.TheVariants.{Min, Max}
use Rattle.assign_core.specs.Numbered.{IsNumber, numbered}
use Rattle.assign_core.specs.Rows.{Listing, HasCosts, IsCost, listed_in, listed_or_zero, row_of}
use Rattle.assign_core.specs.Assignment.{AreListed, IsNoWorse, total}
use Rattle.assign_core.proofs.Listed.{entry_found}
use Rattle.assign_core.proofs.NumberedLemmas.{low_or_same}
use Rattle.assign_core.proofs.Orders.{le_antisymmetric}
use Rattle.assign_core.proofs.Zips.{pair_number, zip_at}
use Rattle.cost_lists.specs.declared.numbers.TheConstants.{UNLISTED}
use Rattle.cost_lists.specs.Given.{IsBestGiven, best_given, triples_of}
use Rattle.cost_lists.specs.Own.{AreOwnOr, minimised, turned_or}
use Rattle.cost_lists.proofs.BestGiven.{best_given_is}
use Rattle.cost_lists.proofs.ExactDuality.{some_cost}
use Rattle.cost_lists.proofs.Triples.{place_of_triple, triple_contained}

-- the place of a listed pair's person
abbrev pub person_place : List ℕ → ℕ → ℕ
person_place persons q = get_or persons q 0 - 1

-- the pair at place q is its person's own
abbrev pub IsOwnPair : List ℕ → List ℕ → List ℕ → ℕ → Type 0
IsOwnPair persons objects xs q = get_or objects q 0 ≡ get_or xs (person_place persons q) 0

-- a pair among the first k that is the own one of the person at place i, at this cost
pub record IsMet (sense : Sense) (persons objects : List ℕ) (costs : List ℤ) (xs : List ℕ) (k i : ℕ) (value : ℤ) : Type 0 where
  pub place : ℕ
  pub before : place < k
  pub person : person_place persons place ≡ i
  pub own : IsOwnPair persons objects xs place
  pub cost : value ≡ minimised sense (get_or costs place (pos 0))

-- each person's cost is the least of its own pairs among the first k, or the mark
pub record AreOwnSoFar (mark : ℤ) (sense : Sense) (persons objects : List ℕ) (costs : List ℤ) (xs : List ℕ) (k : ℕ) (own : List ℤ) : Type 0 where
  pub low : (q : ℕ) → q < k → IsOwnPair persons objects xs q → get_or own (person_place persons q) (pos 0) ≤ℤ minimised sense (get_or costs q (pos 0))
  pub met : (i : ℕ) → i < length own → (get_or own i (pos 0) ≡ mark) ⊎ IsMet sense persons objects costs xs k i (get_or own i (pos 0))

module _ (mark : ℤ) (sense : Sense) (persons objects : List ℕ) (costs : List ℤ) (xs : List ℕ) where
  met_later : (k i : ℕ) (c : ℤ) → IsMet sense persons objects costs xs k i c → IsMet sense persons objects costs xs (k + 1) i c
  met_later k i c m = record { place = m.place; before = let b = m.before in omega arith; person = m.person; own = m.own; cost = m.cost }

  later : (k i : ℕ) (own : List ℤ) → (get_or own i (pos 0) ≡ mark) ⊎ IsMet sense persons objects costs xs k i (get_or own i (pos 0)) →
      (get_or own i (pos 0) ≡ mark) ⊎ IsMet sense persons objects costs xs (k + 1) i (get_or own i (pos 0))
  later k i own h = elim h [ inl e ↦ inl e | inr m ↦ inr (met_later k i (get_or own i (pos 0)) m) ]

  pub own_none : (n : ℕ) (own : List ℤ) → own ≡ replicate n mark → ((i : ℕ) → i < length own →
      get_or own i (pos 0) ≡ mark) → AreOwnSoFar mark sense persons objects costs xs 0 own
  own_none n own e each = record { low = λ q lt. absurd (omega arith); met = λ i lt. inl (each i lt) }

  -- a pair that isn't its person's own
  pub own_skip : (k : ℕ) (own : List ℤ) → (IsOwnPair persons objects xs k → ⊥) → AreOwnSoFar mark sense persons objects costs xs k own →
      AreOwnSoFar mark sense persons objects costs xs (k + 1) own
  own_skip k own other h = record {
    low = λ q lt own_pair. elim (low_or_same q k lt) [
      | inl below ↦ h.low q below own_pair
      | inr same ↦ absurd (other (subst (IsOwnPair persons objects xs) same own_pair))
    ];
    met = λ i lt. later k i own (h.met i lt);
  }

  -- one that is
  pub own_take : (k : ℕ) (own : List ℤ) (c : ℤ) → person_place persons k < length own → IsOwnPair persons objects xs k →
      c ≡ int_min (get_or own (person_place persons k) (pos 0)) (minimised sense (get_or costs k (pos 0))) →
      AreOwnSoFar mark sense persons objects costs xs k own → AreOwnSoFar mark sense persons objects costs xs (k + 1) (set own (person_place persons k) c)
  own_take k own c room this e h =
      let p : ℕ = person_place persons k in
      let t : ℤ = minimised sense (get_or costs k (pos 0)) in
      let under : (c ≤ℤ get_or own p (pos 0)) × (c ≤ℤ t) = (omega (arith, ints, clamps), omega (arith, ints, clamps)) in
      record {
        low = λ q lt own_pair. elim (eqb_tells (person_place persons q) p) [
          | inl s ↦
              let read = ap (λ i. get_or (set own p c) i (pos 0)) s.1 ∙ get_or-set_same own p c (pos 0) room in
              elim (low_or_same q k lt) [
                | inl below ↦
                    let before = h.low q below own_pair in
                    let at = ap (λ i. get_or own i (pos 0)) s.1 in
                    let le = under.0 in
                    omega (arith, ints)
                | inr same ↦
                    let cost = ap (λ z. minimised sense (get_or costs z (pos 0))) same in
                    let le = under.1 in
                    omega (arith, ints)
              ]
          | inr s ↦ elim (low_or_same q k lt) [
            | inl below ↦ subst (λ z. z ≤ℤ minimised sense (get_or costs q (pos 0)))
                (sym (get_or-set_other own p (person_place persons q) c (pos 0) s.1)) (h.low q below own_pair)
            | inr same ↦ absurd (s.1 (ap (person_place persons) same))
          ]
        ];
        met = λ i lt.
            let long = length-set own p c in
            elim (eqb_tells i p) [
              | inl s ↦
                  let read = ap (λ j. get_or (set own p c) j (pos 0)) s.1 ∙ get_or-set_same own p c (pos 0) room in
                  by_lt_z {P = (get_or (set own p c) i (pos 0) ≡ mark) ⊎ IsMet sense persons objects costs xs
                  (k + 1) i (get_or (set own p c) i (pos 0))} (get_or own p (pos 0)) t
                  (λ less.
                  let is : c ≡ get_or own p (pos 0) = omega (arith, ints, clamps) in
                  let same : get_or (set own p c) i (pos 0) ≡ get_or own i (pos 0) = read ∙ is ∙ ap (λ j. get_or own j (pos 0)) (sym s.1) in
                  subst (λ z. (z ≡ mark) ⊎ IsMet sense persons objects costs xs (k + 1) i z) (sym same) (later k i own (h.met i (omega arith))))
                  (λ le.
                  let is : c ≡ t = omega (arith, ints, clamps) in
                  inr (record { place = k; before = omega arith; person = sym s.1; own = this; cost = read ∙ is }))
              | inr s ↦
                  subst (λ z. (z ≡ mark) ⊎ IsMet sense persons objects costs xs (k + 1) i z)
                  (sym (get_or-set_other own p i c (pos 0) s.1)) (later k i own (h.met i (omega arith)))
            ];
      }

-- a cost that is no worse is no greater when it is turned
pub turned_order : (sense : Sense) (a b : ℤ) → IsNoWorse sense a b → minimised sense a ≤ℤ minimised sense b
turned_order Min a b h = h
turned_order Max a b h = omega (arith, ints)

pub turned_range : (sense : Sense) (a : ℤ) → IsCost a → IsCost (minimised sense a)
turned_range Min a h = h
turned_range Max a h = let low = h.least in let high = h.greatest in record { least = omega (arith, ints); greatest = omega (arith, ints) }

-- the costs of a list are below the mark when they are turned
pub costs_below : (sense : Sense) (costs : List ℤ) → All IsCost costs → (q : ℕ) → q < length costs → minimised sense (get_or costs q (pos 0)) <ℤ UNLISTED
costs_below sense costs each q lt = let range = turned_range sense (get_or costs q (pos 0)) (each q (pos 0) lt) in let most = range.greatest in omega (arith, ints)

module _ (mark : ℤ) (sense : Sense) (n : ℕ) (persons objects : List ℕ) (costs : List ℤ) (xs : List ℕ) (own : List ℤ)
    (e : length objects ≡ length persons) (f : length costs ≡ length persons) (in_n : All (IsNumber n) persons)
    (below : (q : ℕ) → q < length persons → minimised sense (get_or costs q (pos 0)) <ℤ mark) (h : AreOwnSoFar mark sense persons objects costs xs (length persons) own) where
  own_at : (i : ℕ) → i < length own → (o : Option ℤ) → IsBestGiven sense (triples_of persons objects costs) (i + 1)
      (get_or xs i 0) o → get_or own i (pos 0) ≡ turned_or mark sense o
  own_at i lt None none = elim (h.met i lt) [
    | inl same ↦ same
    | inr m ↦
        let c = triple_contained persons objects costs e f m.place m.before in
        let number = in_n m.place 0 m.before in
        let some = number.first in
        let at = m.person in
        let person : get_or persons m.place 0 ≡ i + 1 = omega arith in
        let object : get_or objects m.place 0 ≡ get_or xs i 0 = m.own ∙ ap (λ p. get_or xs p 0) at in
        absurd (none (get_or costs m.place (pos 0)) (subst (λ j. Contains (triples_of persons objects costs) (i + 1, j, get_or costs m.place (pos 0))) object
        (subst (λ p. Contains (triples_of persons objects costs) (p, get_or objects m.place 0, get_or costs m.place (pos 0))) person c)))
  ]
  own_at i lt (Some b) best =
      let p = place_of_triple persons objects costs e f (i + 1) (get_or xs i 0) b best.0 in
      let at : person_place persons p.place ≡ i = let person = p.person in omega arith in
      let here : IsOwnPair persons objects xs p.place = p.object ∙ ap (λ q. get_or xs q 0) (sym at) in
      let low = h.low p.place p.below here in
      let read = ap (λ q. get_or own q (pos 0)) at in
      let cost = ap (minimised sense) p.cost in
      let under : get_or own i (pos 0) ≤ℤ minimised sense b = omega (arith, ints) in
      let less = below p.place p.below in
      elim (h.met i lt) [
        | inl same ↦ absurd (omega (arith, ints, same))
        | inr m ↦
            let c = triple_contained persons objects costs e f m.place m.before in
            let number = in_n m.place 0 m.before in
            let some = number.first in
            let met = m.person in
            let person : get_or persons m.place 0 ≡ i + 1 = omega arith in
            let object : get_or objects m.place 0 ≡ get_or xs i 0 = m.own ∙ ap (λ q. get_or xs q 0) met in
            let given = best.1 (get_or costs m.place (pos 0))
            (subst (λ j. Contains (triples_of persons objects costs) (i + 1, j, get_or costs m.place (pos 0)))
            object
            (subst (λ q. Contains (triples_of persons objects costs) (q, get_or objects m.place 0, get_or costs m.place (pos 0))) person c)) in
            let over = turned_order sense b (get_or costs m.place (pos 0)) given in
            let is = m.cost in
            le_antisymmetric (get_or own i (pos 0)) (minimised sense b) under (omega (arith, ints))
      ]

  -- after all pairs
  pub own_given : (i : ℕ) → i < length own → get_or own i (pos 0) ≡ turned_or mark sense
      (best_given sense (triples_of persons objects costs) (i + 1) (get_or xs i 0))
  own_given i lt = own_at i lt _ (best_given_is sense (triples_of persons objects costs) (i + 1) (get_or xs i 0))

-- the costs by number
pub own_numbered : (mark : ℤ) (sense : Sense) (rows : List Listing) (xs : List ℕ) (own : List ℤ) → length own ≡ length rows →
    ((i : ℕ) → i < length own → get_or own i (pos 0) ≡ turned_or mark sense (listed_in (row_of rows (i + 1))
    (get_or xs i 0))) → AreOwnOr mark sense rows xs own
own_numbered mark sense rows xs own long h = record { long = long; each = each } where
  each : (i : ℕ) → IsNumber (length rows) i → numbered own i (pos 0) ≡ turned_or mark sense (listed_in (row_of rows i) (numbered xs i 0))
  each zero number = let some = number.first in absurd (omega arith)
  each (suc k) number =
      let last = number.last in
      let e : k + 1 ≡ suc k = omega arith in
      h k (omega arith) ∙ ap (λ i. turned_or mark sense (listed_in (row_of rows i) (get_or xs k 0))) e

-- the sum of own costs
abbrev pub sum_of_costs : List ℤ → ℤ
sum_of_costs own = fold ◌+ℤ◌ (pos 0) own

turned_sum : (sense : Sense) (a b : ℤ) → minimised sense (a +ℤ b) ≡ minimised sense a +ℤ minimised sense b
turned_sum Min a b = refl
turned_sum Max a b = omega (arith, ints)

turned_zero : (sense : Sense) → minimised sense (pos 0) ≡ pos 0
turned_zero Min = refl
turned_zero Max = refl

listed_turned : (mark : ℤ) (sense : Sense) (o : Option ℤ) → IsSome o → turned_or mark sense o ≡ minimised sense (unwrap_or o (pos 0))
listed_turned mark sense None s = absurd (search rules)
listed_turned mark sense (Some c) s = refl

total_from : (mark : ℤ) (sense : Sense) (rows : List Listing) (xs : List ℕ) (own : List ℤ) (a : ℤ) → length own ≡ length rows → AreListed rows xs →
    ((i : ℕ) → i < length rows → get_or own i (pos 0) ≡ turned_or mark sense (listed_in (get_or rows i []) (get_or xs i 0))) →
    fold ◌+ℤ◌ a own ≡ a +ℤ minimised sense (total rows xs)
total_from mark sense [] [] [] a long listed h = let z = turned_zero sense in omega (arith, ints)
total_from mark sense [] [] (c ∷ own) a long listed h = absurd (omega (arith, long))
total_from mark sense [] (x ∷ xs) own a long listed h = absurd listed
total_from mark sense (row ∷ rows) [] own a long listed h = absurd listed
total_from mark sense (row ∷ rows) (x ∷ xs) [] a long listed h = absurd (omega (arith, long))
total_from mark sense (row ∷ rows) (x ∷ xs) (c ∷ own) a long listed h =
    let i = total_from mark sense rows xs own (a +ℤ c) (omega (arith, long)) listed.1 (λ k lt. h (suc k) (omega arith)) in
    let first : c ≡ minimised sense (listed_or_zero row x) = h 0 (omega arith) ∙ listed_turned mark sense (listed_in row x) listed.0 in
    let whole = turned_sum sense (listed_or_zero row x) (total rows xs) in
    omega (arith, ints)

by_places : (mark : ℤ) (sense : Sense) (rows : List Listing) (xs : List ℕ) (own : List ℤ) → AreOwnOr mark sense rows xs own →
    (i : ℕ) → i < length rows → get_or own i (pos 0) ≡ turned_or mark sense (listed_in (get_or rows i []) (get_or xs i 0))
by_places mark sense rows xs own are i lt = are.each (suc i) (record { first = omega arith; last = omega arith })

pub total_turned : {mark : ℤ} (sense : Sense) (rows : List Listing) (xs : List ℕ) (own : List ℤ) → AreOwnOr mark sense rows xs own → AreListed rows xs →
    sum_of_costs own ≡ minimised sense (total rows xs)
total_turned {mark = mark} sense rows xs own are listed =
    let t = total_from mark sense rows xs own (pos 0) are.long listed (by_places mark sense rows xs own are) in
    omega (arith, ints)

-- the own costs of listed objects are in a range that their turned costs don't leave
pub own_within : {mark : ℤ} (IsIn : ℤ → Type 0) → ((a : ℤ) → IsIn a → IsIn (neg_ℤ a)) → (sense : Sense) (rows : List Listing) (xs : List ℕ) (own : List ℤ) →
    AreOwnOr mark sense rows xs own → AreListed rows xs → All (All (λ e. IsIn e.1)) rows → All IsIn own
own_within {mark = mark} IsIn negated sense rows xs own are listed costs i d lt =
    let long = are.long in
    let below : i < length rows = omega arith in
    let row : Listing = get_or rows i [] in
    let x : ℕ = get_or xs i 0 in
    let s = zip_at (λ (row : Listing) (j : ℕ). IsSome (listed_in row j)) rows xs i [] 0 listed below in
    let at = by_places mark sense rows xs own are i below ∙ listed_turned mark sense (listed_in row x) s in
    let found : IsIn (listed_or_zero row x) = entry_found (λ e. IsIn e.1) row x (listed_or_zero row x) (costs i [] below) (some_cost (listed_in row x) s) in
    subst IsIn (sym at ∙ get_or_default own i (pos 0) d lt) (turned_in sense (listed_or_zero row x) found) where
      turned_in : (sense : Sense) (a : ℤ) → IsIn a → IsIn (minimised sense a)
      turned_in Min a h = h
      turned_in Max a h = negated a h

pub own_range : {mark : ℤ} (sense : Sense) (rows : List Listing) (xs : List ℕ) (own : List ℤ) → AreOwnOr mark sense rows xs own →
    AreListed rows xs → All HasCosts rows → All IsCost own
own_range sense rows xs own are listed costs = own_within IsCost (turned_range Max) sense rows xs own are listed costs

-- the own cost of a person whose object is listed
pub own_numbered_is : {mark : ℤ} (sense : Sense) (rows : List Listing) (xs : List ℕ) (own : List ℤ) → AreOwnOr mark sense rows xs own → AreListed rows xs →
    (i : ℕ) → IsNumber (length rows) i → numbered own i (pos 0) ≡ minimised sense (listed_or_zero (row_of rows i) (numbered xs i 0))
own_numbered_is {mark = mark} sense rows xs own are listed i number =
    are.each i number
    ∙ listed_turned mark sense (listed_in (row_of rows i) (numbered xs i 0))
    (pair_number (λ (row : Listing) (j : ℕ). IsSome (listed_in row j)) rows xs i [] 0 listed number.first
    number.last)
