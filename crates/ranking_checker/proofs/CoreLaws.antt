-- The core of costs that are read.
use Rattle.std.proofs.Common.{◌≡◌, ℕ, ℤ, pos, ◌+ℤ◌, ◌<ℤ◌, ◌+◌, ◌-◌, List, [], Some, length, get_or, refl, arith, ap, sym, subst, ◌∙◌, inl, inr}
use Rattle.std.specs.List.{All, Contains}
use Rattle.std.proofs.lemmas.Int.{ints}
use Rattle.assign_core.specs.Numbered.{IsNumber}
use Rattle.assign_core.specs.Rows.{listed_in, row_of}
use Rattle.assign_core.specs.Dense.{rows_cut}
use Rattle.assign_core.specs.Assignment.{AreListed}
use Rattle.assign_core.specs.Prices.{price_of}
use Rattle.assign_core.specs.Sparse.{IsTripleAmong}
use Rattle.assign_core.proofs.NumberedLemmas.{numbered-index}
use Rattle.cost_lists.specs.declared.source.Pairs.{Pairs}
use Rattle.cost_lists.specs.Blocks.{reduced_sum}
use Rattle.cost_lists.specs.Given.{IsBestGiven, best_given, rows_given}
use Rattle.cost_lists.specs.ListedCosts.{ListedCosts}
use Rattle.cost_lists.specs.Own.{AreOwnCosts, minimised}
use Rattle.cost_lists.specs.Source.{AreCosts, ArePairs, part_of, triples_in}
use Rattle.cost_lists.proofs.BestGiven.{best_given_is}
use Rattle.cost_lists.proofs.GivenRows.{rows_list}
use Rattle.cost_lists.proofs.Owns.{own_numbered_is}
use Rattle.cost_lists.proofs.Triples.{place_of_triple, triples_among}
use Rattle.block_checker.specs.inside.Reading.{IsRead}
use Rattle.block_checker.proofs.GivenPairs.{pair_read, row_read}
use Rattle.plan_checker.specs.Ranks.{own_sum}
use Rattle.plan_checker.proofs.Reading.{cut_pair}
use Rattle.ranking_checker.specs.declared.low.Base.{Base}
use Rattle.ranking_checker.specs.declared.pairs.Pair.{Pair}
use Rattle.ranking_checker.specs.inside.Adding.{AddsFrom, AreOfRows}
use Rattle.ranking_checker.specs.inside.Bases.{IsBase, IsLow, cut_pair_at, listed_pair, sum_at}
use Rattle.ranking_checker.specs.inside.Core.{AreCore, pair}

module _ (l : ListedCosts) (b : Base) (are : IsBase (length l.rows) l.m b) (same : b.sense ≡ l.sense)
    (own : AreOwnCosts l.sense l.rows b.objects.now b.own.now) (listed : AreListed l.rows b.objects.now) where
  sum_is : (i : ℕ) → IsNumber (length l.rows) i → own_sum l b.objects.now b.prices.now i ≡ sum_at b i
  sum_is i number =
      let first = number.first in
      let last = number.last in
      let x : ℕ = get_or b.objects.now (i - 1) 0 in
      let object = numbered-index b.objects.now i 0 0 first (let e = are.objects_long in omega arith) in
      let inside = are.objects_in (i - 1) 0 (let e = are.objects_long in omega arith) in
      let price = numbered-index b.prices.now x (pos 0) (pos 0) inside.first (let e = are.prices_long in let most = inside.last in omega arith) in
      let cost = own_numbered_is l.sense l.rows b.objects.now b.own.now own listed i number in
      let at = numbered-index b.own.now i (pos 0) (pos 0) first (let e = are.own_long in omega arith) in
      let whole = ap (price_of b.prices.now) object in
      omega (arith, ints)

  low_is : (i k : ℕ) (c : ℤ) → IsNumber (length l.rows) i → IsNumber l.m k →
      reduced_sum l.sense b.prices.now k c <ℤ (own_sum l b.objects.now b.prices.now i +ℤ b.bound) → IsLow b (pair i k c)
  low_is i k c person object low =
      let sum = sum_is i person in
      let last = object.last in
      let price = numbered-index b.prices.now k (pos 0) (pos 0) object.first (let e = are.prices_long in omega arith) in
      let turned = ap (λ s. minimised s c) same in
      omega (arith, ints)

  module _ (costs : List ℤ) (in_range : AreCosts (length l.rows) l.m costs) (rows : rows_cut l.m (length l.rows) costs ≡ l.rows) (ps : List Pair) where
    rows_core : AreOfRows (IsLow b) (cut_pair_at l.m costs) (length l.rows) l.m ps → AreCore b.bound l b.objects.now b.prices.now ps
    rows_core h = record {
      given = λ p there.
          let w = h.came p there in
          let r = row_read l.sense (length l.rows) l.m costs w.0 w.1 in_range w.2 w.3 in
          subst (λ q. IsRead l.sense l.rows (length l.rows) l.m q.person q.object q.cost) (sym w.4)
          (subst (λ z. IsRead l.sense z (length l.rows) l.m (w.0 + 1) (w.1 + 1) (get_or (part_of l.m w.0 costs) w.1 (pos 0))) rows r);
      has = λ i k c at low.
          let cut = cut_pair (length l.rows) l.m costs i k c in_range (ap (λ r. listed_in (row_of r i) k) rows ∙ at) in
          let first = cut.person.first in
          let last = cut.person.last in
          let some = cut.object.first in
          let most = cut.object.last in
          let e : i - 1 + 1 ≡ i = omega arith in
          let f : k - 1 + 1 ≡ k = omega arith in
          let is : cut_pair_at l.m costs (i - 1) (k - 1) ≡ pair i k c = rw (e, f, cut.read) refl in
          subst (Contains ps) is (h.has (i - 1) (k - 1) (omega arith) (omega arith) (subst (IsLow b) (sym is) (low_is i k c cut.person cut.object low)));
    }

    pub core_from_rows : AreOfRows (IsLow b) (cut_pair_at (length b.prices.now) costs) (length b.own.now) (length b.prices.now) ps →
        AreCore b.bound l b.objects.now b.prices.now ps
    core_from_rows h =
        rows_core (subst (λ n. AreOfRows (IsLow b) (cut_pair_at l.m costs) n l.m ps) are.own_long
        (subst (λ m. AreOfRows (IsLow b) (cut_pair_at m costs) (length b.own.now) m ps) are.prices_long h))

  module _ (pairs : Pairs) (given : ArePairs (length l.rows) l.m pairs) (rows : rows_given l.sense (triples_in pairs) l.m 1 (length l.rows) ≡ l.rows) (ps : List Pair) where
    among : All (IsTripleAmong (length l.rows) l.m) (triples_in pairs)
    among = triples_among pairs.persons.now pairs.objects.now pairs.costs.now given.objects_long given.costs_long
        (length l.rows) l.m given.persons_in given.objects_in given.costs_in

    given_pair : (i j : ℕ) (c : ℤ) → best_given l.sense (triples_in pairs) i j ≡ Some c → Contains (triples_in pairs) (i, j, c)
    given_pair i j c e =
        let best : IsBestGiven l.sense (triples_in pairs) i j (Some c) =
        subst (IsBestGiven l.sense (triples_in pairs) i j) e (best_given_is l.sense (triples_in pairs) i j) in
        best.0

    pub core_from_pairs : AddsFrom (IsLow b) (listed_pair pairs) (length pairs.persons.now) [] ps → AreCore b.bound l b.objects.now b.prices.now ps
    core_from_pairs h = record {
      given = λ p there. elim (h.came p there) [
        | inl none ↦ absurd (omega (arith, none.1))
        | inr w ↦
            let k : ℕ = w.0 in
            let r = pair_read l.sense pairs (length l.rows) l.m given k w.1 in
            subst (λ q. IsRead l.sense l.rows (length l.rows) l.m q.person q.object q.cost) (sym w.2)
            (subst (λ z. IsRead l.sense z (length l.rows) l.m (get_or pairs.persons.now k 0) (get_or pairs.objects.now k 0) (get_or pairs.costs.now k (pos 0))) rows r)
      ];
      has = λ i k c listed_at low.
          let best = sym (rows_list l.sense (triples_in pairs) (length l.rows) l.m among i k) ∙ ap (λ r. listed_in (row_of r i) k) rows ∙ listed_at in
          let at = place_of_triple pairs.persons.now pairs.objects.now pairs.costs.now given.objects_long given.costs_long i k c (given_pair i k c best) in
          let lt = at.below in
          let person = subst (IsNumber (length l.rows)) at.person (given.persons_in at.place 0 lt) in
          let object = subst (IsNumber l.m) at.object (given.objects_in at.place 0 (let long = given.objects_long in omega arith)) in
          let is : listed_pair pairs at.place ≡ pair i k c = rw (at.person, at.object, at.cost) refl in
          subst (Contains ps) is (h.has at.place lt (subst (IsLow b) (sym is) (low_is i k c person object low)));
    }
