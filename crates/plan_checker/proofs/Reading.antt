-- Pairs that are read, and ranks of the objects of an optimum.
use Rattle.std.proofs.Common.{◌≡◌, ◌≢◌, ◌↔◌, ℕ, ℤ, pos, ◌+ℤ◌, ◌≤ℤ◌, ◌<ℤ◌, ◌<◌, ◌+◌, ◌-◌, suc, List, [], ◌∷◌, Some, IsSome, Bool, true, false, length, get_or, ◌⊎◌}
use Rattle.std.proofs.Common.{inl, inr, refl, arith, ap, sym, subst, ◌∙◌}
use mathlib.Core.Bool.{true≢false}
use Rattle.std.specs.List.{All, Contains}
use Rattle.std.proofs.lemmas.Int.{ints}
use Rattle.std.proofs.lemmas.List.Elements.{All-from_get_or}
use Rattle.assign_core.specs.Numbered.{IsMarked, IsNumber, numbered}
use Rattle.assign_core.specs.declared.sense.Sense.{Sense}
use Rattle.assign_core.specs.Rows.{IsCost, Listing, listed_in, row_of}
use Rattle.assign_core.specs.Dense.{rows_cut}
use Rattle.assign_core.specs.Assignment.{AreListed, IsNoWorse}
use Rattle.assign_core.specs.Prices.{price_of}
use Rattle.assign_core.specs.Sparse.{IsTripleAmong}
use Rattle.assign_core.proofs.DenseRows.{length-rows_cut}
use Rattle.assign_core.proofs.Listed.{listing_within}
use Rattle.assign_core.proofs.NumberedLemmas.{numbered-index, numbered-next}
use Rattle.dual_checker.specs.Faults.{own_object}
use Rattle.cost_lists.specs.declared.source.Pairs.{Pairs}
use Rattle.cost_lists.specs.Blocks.{reduced_sum}
use Rattle.cost_lists.specs.Exact.{AreFree, IsPriceInLimits}
use Rattle.cost_lists.specs.Given.{IsBestGiven, best_given, rows_given}
use Rattle.cost_lists.specs.ListedCosts.{ListedCosts}
use Rattle.cost_lists.specs.Own.{AreOwnCosts, minimised}
use Rattle.cost_lists.specs.Source.{AreCosts, ArePairs, part_of, triples_in}
use Rattle.cost_lists.proofs.BestGiven.{best_given_is}
use Rattle.cost_lists.proofs.CutRows.{cost_read, cut_row, listed_number, part_fits, part_long}
use Rattle.cost_lists.proofs.GivenRows.{rows_list}
use Rattle.cost_lists.proofs.Owns.{own_numbered_is, turned_order, turned_range}
use Rattle.cost_lists.proofs.Triples.{place_of_triple, triples_among}
use Rattle.block_checker.proofs.GivenPairs.{pair_read, row_read}
use Rattle.plan_checker.specs.declared.rises.Plan.{Plan}
use Rattle.plan_checker.specs.Ranks.{IsInCore, IsLow, IsRank, ProveOpen, RanksRise, own_sum, rank_of}
use Rattle.plan_checker.specs.inside.Rises.{IsFreeAt, IsPlan, IsSum, PairsRise, Rises, RisesLater, RowRises, RowsRise, StaysLow, StaysOpen, object_at, other_price_at, own_other_sum, price_at, rank_at, sum_at}

pub listed_long : (rows : List Listing) (xs : List ℕ) → AreListed rows xs → length xs ≡ length rows
listed_long [] [] h = refl
listed_long [] (x ∷ xs) h = absurd h
listed_long (row ∷ rows) [] h = absurd h
listed_long (row ∷ rows) (x ∷ xs) h = ap suc (listed_long rows xs h.1)

pub sum_in : (sense : Sense) (c p s : ℤ) → IsCost c → IsPriceInLimits p → s ≡ minimised sense c +ℤ p → IsSum s
sum_in sense c p s cost price is =
    let turned = turned_range sense c cost in
    let least = turned.least in
    let greatest = turned.greatest in
    let low = price.least in
    let high = price.greatest in
    record { least = omega (arith, ints); greatest = omega (arith, ints) }

some_same : {a b : ℤ} → Some a ≡ Some b → a ≡ b
some_same e = cc

-- a pair of rows that are cut from all costs, and its place
pub record IsCut (n m : ℕ) (costs : List ℤ) (i k : ℕ) (c : ℤ) : Type 0 where
  pub person : IsNumber n i
  pub object : IsNumber m k
  pub read : get_or (part_of m (i - 1) costs) (k - 1) (pos 0) ≡ c

pub cut_pair : (n m : ℕ) (costs : List ℤ) (i k : ℕ) (c : ℤ) → AreCosts n m costs → listed_in (row_of (rows_cut m n costs) i) k ≡ Some c → IsCut n m costs i k c
cut_pair n m costs i k c are listed =
    let seen = subst (λ o. IsSome o) (sym listed) refl in
    let person = subst (λ z. IsNumber z i) (length-rows_cut m n costs) (listing_within (rows_cut m n costs) i k seen) in
    let first = person.first in
    let last = person.last in
    let e : i - 1 + 1 ≡ i = omega arith in
    let row = ap (row_of (rows_cut m n costs)) (sym e) ∙ cut_row n m (i - 1) costs (omega arith) in
    let part = part_of m (i - 1) costs in
    let long = part_long m (i - 1) costs (part_fits n m (i - 1) costs are.long (omega arith)) in
    let there = sym (ap (λ r. listed_in r k) row) ∙ listed in
    let number = listed_number part k (subst (λ o. IsSome o) (sym there) refl) in
    record { person = person; object = subst (λ z. IsNumber z k) long number; read = some_same (cost_read part k number ∙ there) }

module _ (l : ListedCosts) (p : Plan) (are : IsPlan (length l.rows) l.m p) (same : p.sense ≡ l.sense)
    (own : AreOwnCosts l.sense l.rows p.objects.now p.own.now) (listed : AreListed l.rows p.objects.now) where
  object_is : (i : ℕ) → IsNumber (length l.rows) i → own_object p.objects.now i ≡ object_at p i
  object_is i number = numbered-index p.objects.now i 0 0 number.first (let last = number.last in let e = are.objects_long in omega arith)

  object_in : (i : ℕ) → IsNumber (length l.rows) i → IsNumber l.m (object_at p i)
  object_in i number = are.objects_in (i - 1) 0 (let first = number.first in let last = number.last in let e = are.objects_long in omega arith)

  price_is : (j : ℕ) → IsNumber l.m j → price_of p.prices.now j ≡ price_at p j
  price_is j number = numbered-index p.prices.now j (pos 0) (pos 0) number.first (let last = number.last in let e = are.prices_long in omega arith)

  rank_is : (j : ℕ) → IsNumber l.m j → rank_of p.ranks.now j ≡ rank_at p j
  rank_is j number = numbered-index p.ranks.now j (pos 0) (pos 0) number.first (let last = number.last in let e = are.ranks_long in omega arith)

  own_rank_is : (i : ℕ) → IsNumber (length l.rows) i → rank_of p.ranks.now (own_object p.objects.now i) ≡ rank_at p (object_at p i)
  own_rank_is i number = ap (rank_of p.ranks.now) (object_is i number) ∙ rank_is (object_at p i) (object_in i number)

  sum_is : (i : ℕ) → IsNumber (length l.rows) i → own_sum l p.objects.now p.prices.now i ≡ sum_at p i
  sum_is i number =
      let cost = own_numbered_is l.sense l.rows p.objects.now p.own.now own listed i number in
      let at = numbered-index p.own.now i (pos 0) (pos 0) number.first (let last = number.last in let e = are.own_long in omega arith) in
      let price = ap (price_of p.prices.now) (object_is i number) ∙ price_is (object_at p i) (object_in i number) in
      omega (arith, ints)

  other_is : (t j : ℕ) → price_of (part_of l.m t p.others.now) j ≡ other_price_at p t j
  other_is t j = ap (λ m. price_of (part_of m t p.others.now) j) (sym are.prices_long)

  other_sum_is : (t i : ℕ) → IsNumber (length l.rows) i → own_sum l p.objects.now (part_of l.m t p.others.now) i ≡ own_other_sum p t i
  other_sum_is t i number =
      let cost = own_numbered_is l.sense l.rows p.objects.now p.own.now own listed i number in
      let at = numbered-index p.own.now i (pos 0) (pos 0) number.first (let last = number.last in let e = are.own_long in omega arith) in
      let price = ap (price_of (part_of l.m t p.others.now)) (object_is i number) ∙ other_is t (object_at p i) in
      omega (arith, ints)

  -- what is shown: further lists that prove the optimum among open pairs, and ranks
  abbrev AreShown : Type 0
  AreShown = ProveOpen p.bound l p.objects.now p.prices.now p.count p.others.now
      × RanksRise p.is_strict p.bound l p.objects.now p.prices.now p.ranks.now p.count p.others.now

  -- the reduced cost of a pair is below the bound by the first t further lists
  abbrev IsLowBy : ℕ → ℕ → ℕ → ℤ → Type 0
  IsLowBy t i k c = (s : ℕ) → s < t → reduced_sum l.sense (part_of l.m s p.others.now) k c <ℤ (own_sum l p.objects.now (part_of l.m s p.others.now) i +ℤ p.bound)

  stays_open : (t i k : ℕ) (c : ℤ) → IsNumber (length l.rows) i → IsLowBy t i k c → StaysOpen p t i k c
  stays_open t i k c person low s lt =
      let here = low s lt in
      let sum = other_sum_is s i person in
      let price = other_is s k in
      let turned = ap (λ z. minimised z c) same in
      omega (arith, ints)

  is_low_by : (t i k : ℕ) (c d : ℤ) → IsNumber (length l.rows) i → IsNoWorse l.sense d c → StaysOpen p t i k c → IsLowBy t i k d
  is_low_by t i k c d person worse stays s lt =
      let here = stays s lt in
      let sum = other_sum_is s i person in
      let price = other_is s k in
      let turned = ap (λ z. minimised z c) same in
      let order = turned_order l.sense d c worse in
      omega (arith, ints)

  -- what an open pair shows that was read
  shown : (i k : ℕ) (c : ℤ) → IsNumber (length l.rows) i → IsNumber l.m k → Rises p i k c →
      reduced_sum l.sense p.prices.now k c <ℤ (own_sum l p.objects.now p.prices.now i +ℤ p.bound) → k ≢ own_object p.objects.now i → RisesLater p i k c
  shown i k c person object rises low other =
      let sum = sum_is i person in
      let price = price_is k object in
      let turned = ap (λ s. minimised s c) same in
      rises (omega (arith, ints)) (λ e. other (e ∙ sym (object_is i person)))

  -- each listed pair was read
  record IsRead (i k : ℕ) (c : ℤ) : Type 0 where
    person : IsNumber (length l.rows) i
    object : IsNumber l.m k
    rises : Rises p i k c

  all_shown : ((i k : ℕ) (c : ℤ) → listed_in (row_of l.rows i) k ≡ Some c → IsRead i k c) → AreShown
  all_shown read = (
    (λ t i k lt o other.
        let c : ℤ = o.core.cost in
        let r = read i k c o.core.listed in
        let later = shown i k c r.person r.object r.rises o.core.low other in
        let proved = later.proved t lt (stays_open t i k c r.person o.low) in
        let sum = other_sum_is t i r.person in
        let price = other_is t k in
        let turned = ap (λ z. minimised z c) same in
        omega (arith, ints)),
    (λ i k o other.
        let c : ℤ = o.core.cost in
        let r = read i k c o.core.listed in
        let later = shown i k c r.person r.object r.rises o.core.low other in
        let here = later.higher (stays_open p.count i k c r.person o.low) in
        let from = own_rank_is i r.person in
        let to = rank_is k r.object in
        omega (arith, ints)),
  )

  -- and the other way: a pair may be given at a cost that isn't its best one
  rising : AreShown → (i k : ℕ) (c d : ℤ) → IsNumber (length l.rows) i → IsNumber l.m k →
      listed_in (row_of l.rows i) k ≡ Some d → IsNoWorse l.sense d c → Rises p i k c
  rising are_shown i k c d person object at worse low other =
      let sum = sum_is i person in
      let price = price_is k object in
      let turned = ap (λ s. minimised s c) same in
      let order = turned_order l.sense d c worse in
      let core : IsInCore p.bound l p.objects.now p.prices.now i k = record { cost = d; listed = at; low = omega (arith, ints) } in
      let apart : k ≢ own_object p.objects.now i = λ e. other (e ∙ object_is i person) in
      record {
        proved = λ t lt stays.
            let here = are_shown.0 t i k lt (record { core = core; low = is_low_by t i k c d person worse stays }) apart in
            let own_sum = other_sum_is t i person in
            let other_price = other_is t k in
            omega (arith, ints);
        higher = λ stays.
            let here = are_shown.1 i k (record { core = core; low = is_low_by p.count i k c d person worse stays }) apart in
            let from = own_rank_is i person in
            let to = rank_is k object in
            omega (arith, ints);
      }

  module _ (costs : List ℤ) (in_range : AreCosts (length l.rows) l.m costs) (rows : rows_cut l.m (length l.rows) costs ≡ l.rows) where
    rows_read : RowsRise p costs → (i k : ℕ) (c : ℤ) → listed_in (row_of l.rows i) k ≡ Some c → IsRead i k c
    rows_read h i k c at =
        let cut = cut_pair (length l.rows) l.m costs i k c in_range (ap (λ r. listed_in (row_of r i) k) rows ∙ at) in
        let first = cut.person.first in
        let last = cut.person.last in
        let some = cut.object.first in
        let most = cut.object.last in
        let long = part_long l.m (i - 1) costs (part_fits (length l.rows) l.m (i - 1) costs in_range.long (omega arith)) in
        let own_long = are.own_long in
        let prices_long = are.prices_long in
        let P : ℕ → Type 0 = λ m. (j : ℕ) → j < length (part_of m (i - 1) costs) → Rises p (i - 1 + 1) (j + 1) (get_or (part_of m (i - 1) costs) j (pos 0)) in
        let row : P l.m = subst P prices_long (h (i - 1) (omega arith)) in
        let e : i - 1 + 1 ≡ i = omega arith in
        let f : k - 1 + 1 ≡ k = omega arith in
        let rises = row (k - 1) (omega arith) in
        record {
          person = cut.person;
          object = cut.object;
          rises = subst (λ z. Rises p i k z) cut.read (subst (λ z. Rises p i z (get_or (part_of l.m (i - 1) costs) (k - 1) (pos 0))) f
              (subst (λ z. Rises p z (k - 1 + 1) (get_or (part_of l.m (i - 1) costs) (k - 1) (pos 0))) e rises));
        }

    rows_from : AreShown → RowsRise p costs
    rows_from rise i lt =
        let own_long = are.own_long in
        let below : i < length l.rows = omega arith in
        let long = part_long l.m i costs (part_fits (length l.rows) l.m i costs in_range.long below) in
        let P : ℕ → Type 0 = λ m. RowRises p (i + 1) (part_of m i costs) in
        subst P (sym are.prices_long) (λ j room.
        let r = row_read l.sense (length l.rows) l.m costs i j in_range below (omega arith) in
        rising rise (i + 1) (j + 1) (get_or (part_of l.m i costs) j (pos 0)) r.given.0 r.person r.object
        (sym (ap (λ q. listed_in (row_of q (i + 1)) (j + 1)) rows) ∙ r.given.1) r.given.2)

    pub rows_same : RowsRise p costs ↔ AreShown
    rows_same = ((λ h. all_shown (rows_read h)), rows_from)

  module _ (pairs : Pairs) (given : ArePairs (length l.rows) l.m pairs) (rows : rows_given l.sense (triples_in pairs) l.m 1 (length l.rows) ≡ l.rows) where
    among : All (IsTripleAmong (length l.rows) l.m) (triples_in pairs)
    among = triples_among pairs.persons.now pairs.objects.now pairs.costs.now given.objects_long given.costs_long
        (length l.rows) l.m given.persons_in given.objects_in given.costs_in

    given_pair : (i j : ℕ) (c : ℤ) → best_given l.sense (triples_in pairs) i j ≡ Some c → Contains (triples_in pairs) (i, j, c)
    given_pair i j c e =
        let best : IsBestGiven l.sense (triples_in pairs) i j (Some c) =
        subst (IsBestGiven l.sense (triples_in pairs) i j) e (best_given_is l.sense (triples_in pairs) i j) in
        best.0

    pairs_read : PairsRise p pairs → (i k : ℕ) (c : ℤ) → listed_in (row_of l.rows i) k ≡ Some c → IsRead i k c
    pairs_read h i k c listed_at =
        let best = sym (rows_list l.sense (triples_in pairs) (length l.rows) l.m among i k) ∙ ap (λ r. listed_in (row_of r i) k) rows ∙ listed_at in
        let at = place_of_triple pairs.persons.now pairs.objects.now pairs.costs.now given.objects_long given.costs_long i k c (given_pair i k c best) in
        let lt = at.below in
        record {
          person = subst (IsNumber (length l.rows)) at.person (given.persons_in at.place 0 lt);
          object = subst (IsNumber l.m) at.object (given.objects_in at.place 0 (let long = given.objects_long in omega arith));
          rises = subst (λ z. Rises p i k z) at.cost (subst (λ z. Rises p i z (get_or pairs.costs.now at.place (pos 0))) at.object
              (subst (λ z. Rises p z (get_or pairs.objects.now at.place 0) (get_or pairs.costs.now at.place (pos 0))) at.person (h at.place lt)));
        }

    pairs_from : AreShown → PairsRise p pairs
    pairs_from rise q lt =
        let r = pair_read l.sense pairs (length l.rows) l.m given q lt in
        rising rise (get_or pairs.persons.now q 0) (get_or pairs.objects.now q 0) (get_or pairs.costs.now q (pos 0)) r.given.0 r.person r.object
        (sym (ap (λ z. listed_in (row_of z (get_or pairs.persons.now q 0)) (get_or pairs.objects.now q 0)) rows) ∙ r.given.1) r.given.2

    pub pairs_same : PairsRise p pairs ↔ AreShown
    pairs_same = ((λ h. all_shown (pairs_read h)), pairs_from)

marked_or_not : (mark : Bool) → (mark ≡ true) ⊎ ((mark ≡ true) → ⊥)
marked_or_not true = inl refl
marked_or_not false = inr (λ e. absurd (true≢false (sym e)))

-- what the ranks and further lists have of objects, by place: ranks in range, ranks and further
-- prices of unowned objects, and ranks of those whose price stays below the bound
pub record AreFreeRanks (m : ℕ) (xs : List ℕ) (p : Plan) : Type 0 where
  pub in_range : All IsRank p.ranks.now
  pub unowned : AreFree m p.ranks.now xs
  pub unpriced : (t : ℕ) → t < p.count → AreFree m (part_of m t p.others.now) xs
  pub free : (j : ℕ) → IsNumber m j → IsLow p.bound m p.prices.now p.count p.others.now j → pos 0 ≤ℤ rank_of p.ranks.now j

module _ (n m : ℕ) (xs : List ℕ) (owned : List Bool) (p : Plan) (long : length owned ≡ m) (are : IsPlan n m p) (marks : (j : ℕ) → IsMarked owned j ↔ Contains xs j) where
  list_is : (t j : ℕ) → price_of (part_of m t p.others.now) j ≡ other_price_at p t j
  list_is t j = ap (λ z. price_of (part_of z t p.others.now) j) (sym are.prices_long)

  free_to : ((j : ℕ) → j < length owned → IsFreeAt owned p j) → AreFreeRanks m xs p
  free_to h = record {
    in_range = All-from_get_or IsRank p.ranks.now (pos 0) (λ k lt. (h k (let e = are.ranks_long in omega arith)).in_range);
    unowned = λ j number.
        let first = number.first in
        let last = number.last in
        let e : j - 1 + 1 ≡ j = omega arith in
        let rank = numbered-index p.ranks.now j (pos 0) (pos 0) first (let e = are.ranks_long in omega arith) in
        elim (h (j - 1) (omega arith)).unowned [
          | inl marked ↦ inl ((marks j).0 (subst (IsMarked owned) e marked))
          | inr zero ↦ inr (rank ∙ zero)
        ];
    unpriced = λ t lt j number.
        let first = number.first in
        let last = number.last in
        let e : j - 1 + 1 ≡ j = omega arith in
        elim (h (j - 1) (omega arith)).unpriced [
          | inl marked ↦ inl ((marks j).0 (subst (IsMarked owned) e marked))
          | inr zero ↦ inr (list_is t j ∙ sym (ap (other_price_at p t) e) ∙ zero t lt)
        ];
    free = λ j number low.
        let first = number.first in
        let last = number.last in
        let e : j - 1 + 1 ≡ j = omega arith in
        let rank = numbered-index p.ranks.now j (pos 0) (pos 0) first (let e = are.ranks_long in omega arith) in
        let price = numbered-index p.prices.now j (pos 0) (pos 0) first (let e = are.prices_long in omega arith) in
        let below = low.first in
        let stays : StaysLow p (j - 1 + 1) = λ t lt. let here = low.later t lt in let is = list_is t j ∙ sym (ap (other_price_at p t) e) in omega (arith, ints) in
        let up = (h (j - 1) (omega arith)).free (omega (arith, ints)) stays in
        omega (arith, ints);
  }

  free_from : AreFreeRanks m xs p → (j : ℕ) → j < length owned → IsFreeAt owned p j
  free_from h j lt =
      let number : IsNumber m (j + 1) = record { first = omega arith; last = omega arith } in
      let rank = numbered-next p.ranks.now j (pos 0) in
      let price = numbered-next p.prices.now j (pos 0) in
      record {
        in_range = h.in_range j (pos 0) (let e = are.ranks_long in omega arith);
        unowned = elim (h.unowned (j + 1) number) [ inl owned ↦ inl ((marks (j + 1)).1 owned) | inr zero ↦ inr (sym rank ∙ zero) ];
        unpriced = elim (marked_or_not (numbered owned (j + 1) false)) [
          | inl owned ↦ inl owned
          | inr none ↦ inr (λ t below. elim (h.unpriced t below (j + 1) number) [
            | inl owned ↦ absurd (none ((marks (j + 1)).1 owned))
            | inr zero ↦ sym (list_is t (j + 1)) ∙ zero
          ])
        ];
        free = λ below stays.
            let up = h.free (j + 1) number (record { first = omega (arith, ints); later = λ t lt. let here = stays t lt in let is = list_is t (j + 1) in omega (arith, ints) }) in
            omega (arith, ints);
      }

  pub free_same : ((j : ℕ) → j < length owned → IsFreeAt owned p j) ↔ AreFreeRanks m xs p
  free_same = (free_to, free_from)
