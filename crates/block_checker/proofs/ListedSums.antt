-- Least sums of rows and of pairs are those of what persons list.
use Rattle.std.proofs.Common.{Result, Ok, Err, OnOk, ◌≡◌, ℕ, ℤ, pos, ◌+ℤ◌, ◌-◌, ◌+◌, ◌≤ℤ◌, ◌<◌, List, Option, None, Some, IsSome, length, get_or}
use Rattle.std.proofs.Common.{inl, inr, refl, arith, ap, sym, subst, ◌∙◌}
use Rattle.std.specs.List.{All, Contains}
use Rattle.std.proofs.lemmas.Int.{ints}
use Rattle.assign_core.specs.declared.sense.Sense.{Sense}
use Rattle.assign_core.specs.Numbered.{IsNumber}
use Rattle.assign_core.specs.Rows.{Listing, listed_in, row_of}
use Rattle.assign_core.specs.Dense.{row_from, rows_cut}
use Rattle.assign_core.specs.Prices.{price_of}
use Rattle.assign_core.specs.Sparse.{IsTripleAmong}
use Rattle.assign_core.proofs.NumberedLemmas.{numbered-index}
use Rattle.assign_core.proofs.Orders.{le_antisymmetric}
use Rattle.cost_lists.specs.declared.source.Pairs.{Pairs}
use Rattle.cost_lists.specs.Blocks.{reduced_sum}
use Rattle.cost_lists.specs.Given.{IsBestGiven, best_given, rows_given}
use Rattle.cost_lists.specs.Own.{minimised}
use Rattle.cost_lists.specs.Source.{AreCosts, ArePairs, part_of, triples_in}
use Rattle.cost_lists.proofs.BestGiven.{best_given_is}
use Rattle.cost_lists.proofs.CutRows.{cost_read, cut_row, listed_number, part_fits, part_long}
use Rattle.cost_lists.proofs.GivenRows.{rows_list}
use Rattle.cost_lists.proofs.Owns.{turned_order}
use Rattle.cost_lists.proofs.Triples.{place_of_triple, triple_contained, triples_among}
use Rattle.block_checker.specs.Sums.{AreLeastSums, IsLeastSum, IsSumOf}
use Rattle.block_checker.specs.inside.Least.{IsLeastOf, IsLeastOfRow, IsPairOf, sum_of_pair}

some_same : {a b : ℤ} → Some a ≡ Some b → a ≡ b
some_same e = cc

-- the price of a number is that at its place
price_at : (prices : List ℤ) (j : ℕ) → IsNumber (length prices) j → price_of prices j ≡ get_or prices (j - 1) (pos 0)
price_at prices j number = numbered-index prices j (pos 0) (pos 0) number.first number.last

module _ (sense : Sense) (costs prices : List ℤ) (n : ℕ) (are : AreCosts n (length prices) costs) (i : ℕ) (number : IsNumber n i) where
  row_is : row_of (rows_cut (length prices) n costs) i ≡ row_from 1 (part_of (length prices) (i - 1) costs)
  row_is =
      let first = number.first in
      let last = number.last in
      let e : i - 1 + 1 ≡ i = omega arith in
      ap (row_of (rows_cut (length prices) n costs)) (sym e) ∙ cut_row n (length prices) (i - 1) costs (omega arith)

  part_is : length (part_of (length prices) (i - 1) costs) ≡ length prices
  part_is =
      let first = number.first in
      let last = number.last in
      part_long (length prices) (i - 1) costs (part_fits n (length prices) (i - 1) costs are.long (omega arith))

  pub row_least : (v : ℤ) → IsLeastOfRow sense (part_of (length prices) (i - 1) costs) prices (length prices) v →
      IsLeastSum sense (rows_cut (length prices) n costs) prices i v
  row_least v h =
      let part = part_of (length prices) (i - 1) costs in
      let long = part_is in
      record {
        none_below = λ j c e.
            let there = sym (ap (λ r. listed_in r j) row_is) ∙ e in
            let inside : IsNumber (length part) j = listed_number part j (subst (λ o. IsSome o) (sym there) refl) in
            let first = inside.first in
            let last = inside.last in
            let read : get_or part (j - 1) (pos 0) ≡ c = some_same (cost_read part j inside ∙ there) in
            let turned = ap (minimised sense) read in
            let price = price_at prices j (record { first = first; last = omega arith }) in
            let low = h.none_below (j - 1) (omega arith) in
            omega (arith, ints);
        reached = elim h.reached [
          | inl mark ↦ inl mark
          | inr at ↦
              let k : ℕ = at.0 in
              let below = at.1 in
              let inside : IsNumber (length part) (k + 1) = record { first = omega arith; last = omega arith } in
              let back : k + 1 - 1 ≡ k = omega arith in
              let read = sym (cost_read part (k + 1) inside) ∙ ap (λ q. Some (get_or part q (pos 0))) back in
              let price = price_at prices (k + 1) (record { first = omega arith; last = omega arith }) ∙ ap (λ q. get_or prices q (pos 0)) back in
              inr (k + 1, get_or part k (pos 0), ap (λ r. listed_in r (k + 1)) row_is ∙ read, at.2 ∙ ap (λ p. minimised sense (get_or part k (pos 0)) +ℤ p) (sym price))
        ];
      }

module _ (sense : Sense) (pairs : Pairs) (prices : List ℤ) (n : ℕ) (are : ArePairs n (length prices) pairs) where
  among : All (IsTripleAmong n (length prices)) (triples_in pairs)
  among = triples_among pairs.persons.now pairs.objects.now pairs.costs.now are.objects_long are.costs_long
      n (length prices) are.persons_in are.objects_in are.costs_in

  module _ (i : ℕ) (number : IsNumber n i) (v : ℤ) (h : IsLeastOf sense pairs prices (length pairs.persons.now) (i - 1) v) where
    low : (j : ℕ) (c : ℤ) → listed_in (row_of (rows_given sense (triples_in pairs) (length prices) 1 n) i) j ≡ Some c → v ≤ℤ reduced_sum sense prices j c
    low j c e =
        let given = sym (rows_list sense (triples_in pairs) n (length prices) among i j) ∙ e in
        let best : IsBestGiven sense (triples_in pairs) i j (Some c) =
        subst (IsBestGiven sense (triples_in pairs) i j) given (best_given_is sense (triples_in pairs) i j) in
        let p = place_of_triple pairs.persons.now pairs.objects.now pairs.costs.now are.objects_long are.costs_long i j c best.0 in
        let below = p.below in
        let long = are.objects_long in
        let inside = subst (IsNumber (length prices)) p.object (are.objects_in p.place 0 (omega arith)) in
        let least = h.none_below p.place p.below (ap (λ a. a - 1) p.person) in
        let cost = ap (minimised sense) p.cost in
        let object = ap (λ a. get_or prices (a - 1) (pos 0)) p.object in
        let price = price_at prices j inside in
        omega (arith, ints)

    -- the pair at a place, whose sum is the least, is its person's at its best cost
    pair_listed : (q : ℕ) → q < length pairs.persons.now → IsPairOf pairs (i - 1) q → v ≡ sum_of_pair sense pairs prices q → (o : Option ℤ) →
        best_given sense (triples_in pairs) i (get_or pairs.objects.now q 0) ≡ o →
        IsSumOf sense (rows_given sense (triples_in pairs) (length prices) 1 n) prices i v
    pair_listed q below this is o e =
        let j : ℕ = get_or pairs.objects.now q 0 in
        let person = are.persons_in q 0 below in
        let some = person.first in
        let first = number.first in
        let same : get_or pairs.persons.now q 0 ≡ i = omega arith in
        let contained : Contains (triples_in pairs) (i, j, get_or pairs.costs.now q (pos 0)) =
        subst (λ a. Contains (triples_in pairs) (a, j, get_or pairs.costs.now q (pos 0))) same
        (triple_contained pairs.persons.now pairs.objects.now pairs.costs.now are.objects_long are.costs_long q below) in
        let best = subst (IsBestGiven sense (triples_in pairs) i j) e (best_given_is sense (triples_in pairs) i j) in
        listed o e contained best where
          listed : (x : Option ℤ) → best_given sense (triples_in pairs) i (get_or pairs.objects.now q 0) ≡ x →
              Contains (triples_in pairs) (i, get_or pairs.objects.now q 0, get_or pairs.costs.now q (pos 0)) →
              IsBestGiven sense (triples_in pairs) i (get_or pairs.objects.now q 0) x →
              IsSumOf sense (rows_given sense (triples_in pairs) (length prices) 1 n) prices i v
          listed None e contained best = absurd (best (get_or pairs.costs.now q (pos 0)) contained)
          listed (Some d) e contained best =
              let j : ℕ = get_or pairs.objects.now q 0 in
              let there = rows_list sense (triples_in pairs) n (length prices) among i j ∙ e in
              let order = turned_order sense d (get_or pairs.costs.now q (pos 0)) (best.1 (get_or pairs.costs.now q (pos 0)) contained) in
              let least = low j d there in
              let long = are.objects_long in
              let price = price_at prices j (are.objects_in q 0 (omega arith)) in
              (j, d, there, le_antisymmetric v (reduced_sum sense prices j d) least (omega (arith, ints)))

    pub pair_least : IsLeastSum sense (rows_given sense (triples_in pairs) (length prices) 1 n) prices i v
    pair_least = record {
      none_below = low;
      reached = elim h.reached [
        | inl mark ↦ inl mark
        | inr at ↦ inr (pair_listed at.0 at.1 at.2 at.3 (best_given sense (triples_in pairs) i (get_or pairs.objects.now at.0 0)) refl)
      ];
    }

-- by numbers in place of places
pub numbers_least : (sense : Sense) (rows : List Listing) (prices least : List ℤ) → length least ≡ length rows →
    ((i : ℕ) → IsNumber (length rows) i → IsLeastSum sense rows prices i (get_or least (i - 1) (pos 0))) → AreLeastSums sense rows prices least
numbers_least sense rows prices least long h = record {
  long = long;
  each = λ i number. subst (IsLeastSum sense rows prices i) (sym (numbered-index least i (pos 0) (pos 0) number.first (let last = number.last in omega arith))) (h i number);
}

-- what follows from what a value shows
pub on_ok : {A E P Q : Type 0} (r : Result A E) → OnOk r P → (P → Q) → OnOk r Q
on_ok (Ok x) h f = f h
on_ok (Err e) h f = tt

pub if_any : {A E Q : Type 0} (r : Result A E) → Q → OnOk r Q
if_any (Ok x) q = q
if_any (Err e) q = tt
