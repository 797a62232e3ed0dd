-- Pairs that are read, and the arrows that they show.
use Rattle.std.proofs.Common.{◌≡◌, ℕ, ℤ, pos, ◌≤ℤ◌, ◌<◌, ◌≤◌, ◌+◌, ◌-◌, List, Some, true, false, length, get_or}
use Rattle.std.proofs.Common.{inl, inr, refl, arith, ap, sym, subst, ◌∙◌}
use mathlib.Core.Bool.{true≢false}
use Rattle.std.specs.List.{All, Contains}
use Rattle.std.proofs.lemmas.Int.{ints}
use Rattle.assign_core.specs.Numbered.{IsNumber}
use Rattle.assign_core.specs.declared.sense.Sense.{Sense}
use Rattle.assign_core.specs.declared.sense.Sense.TheVariants.{Min, Max}
use Rattle.assign_core.specs.Rows.{Listing, listed_in, listed_or_zero, row_of}
use Rattle.assign_core.specs.Dense.{rows_cut}
use Rattle.assign_core.specs.Assignment.{IsNoWorse}
use Rattle.assign_core.specs.Prices.{price_of}
use Rattle.assign_core.specs.Sparse.{IsTripleAmong}
use Rattle.assign_core.proofs.NumberedLemmas.{numbered-index}
use Rattle.assign_core.proofs.Zips.{pair_number}
use Rattle.dual_checker.specs.Faults.{own_object}
use Rattle.cost_lists.specs.declared.source.Pairs.{Pairs}
use Rattle.cost_lists.specs.Blocks.{reduced_sum}
use Rattle.cost_lists.specs.Exact.{IsChoice}
use Rattle.cost_lists.specs.Given.{IsBestGiven, best_given, rows_given}
use Rattle.cost_lists.specs.ListedCosts.{ListedCosts}
use Rattle.cost_lists.specs.Own.{minimised}
use Rattle.cost_lists.specs.Source.{AreCosts, ArePairs, part_of, triples_in}
use Rattle.cost_lists.proofs.BestGiven.{best_given_is}
use Rattle.cost_lists.proofs.CutRows.{part_fits, part_long}
use Rattle.cost_lists.proofs.GivenRows.{rows_list}
use Rattle.cost_lists.proofs.Owns.{own_numbered_is, turned_order}
use Rattle.cost_lists.proofs.Triples.{place_of_triple, triples_among}
use Rattle.block_checker.proofs.GivenPairs.{pair_read, row_read}
use Rattle.plan_checker.specs.Ranks.{own_sum}
use Rattle.plan_checker.proofs.Reading.{cut_pair}
use Rattle.group_checker.specs.declared.plan.Plan.{Plan}
use Rattle.group_checker.specs.Groups.{IsArrow, IsMove}
use Rattle.group_checker.specs.inside.Reading.{Falls, FallsOutAt, IsPlanOf, IsShown, IsShownInPairs, IsShownInRow, PairsFall, RowsFall, group_at, object_at, price_at, sum_at}

-- a choice has the least sum, by turned costs
choice_low : (sense : Sense) (prices : List ℤ) (row : Listing) (x : ℕ) → IsChoice sense prices row x → (k : ℕ) (c : ℤ) → listed_in row k ≡ Some c →
    reduced_sum sense prices x (listed_or_zero row x) ≤ℤ reduced_sum sense prices k c
choice_low Min prices row x h k c e = let low = h k c e in omega (arith, ints)
choice_low Max prices row x h k c e = let low = h k c e in omega (arith, ints)

module _ (l : ListedCosts) (p : Plan) (are : IsPlanOf l p) where
  object_is : (i : ℕ) → IsNumber (length l.rows) i → own_object p.objects.now i ≡ object_at p i
  object_is i number = numbered-index p.objects.now i 0 0 number.first (let last = number.last in let e = are.plan.objects_long in omega arith)

  object_in : (i : ℕ) → IsNumber (length l.rows) i → IsNumber l.m (object_at p i)
  object_in i number = are.plan.objects_in (i - 1) 0 (let first = number.first in let last = number.last in let e = are.plan.objects_long in omega arith)

  price_is : (j : ℕ) → IsNumber l.m j → price_of p.prices.now j ≡ price_at p j
  price_is j number = numbered-index p.prices.now j (pos 0) (pos 0) number.first (let last = number.last in let e = are.plan.prices_long in omega arith)

  group_is : (j : ℕ) → IsNumber l.m j → group_at p j ≡ get_or p.groups.now (j - 1) 0
  group_is j number = numbered-index p.groups.now j 0 p.out number.first (let last = number.last in let e = are.plan.groups_long in omega arith)

  sum_is : (i : ℕ) → IsNumber (length l.rows) i → own_sum l p.objects.now p.prices.now i ≡ sum_at p i
  sum_is i number =
      let cost = own_numbered_is l.sense l.rows p.objects.now p.own.now are.own are.optimum.assigned.listed i number in
      let at = numbered-index p.own.now i (pos 0) (pos 0) number.first (let last = number.last in let e = are.plan.own_long in omega arith) in
      let price = ap (price_of p.prices.now) (object_is i number) ∙ price_is (object_at p i) (object_in i number) in
      omega (arith, ints)

  -- a pair may be given at a cost that isn't its best one
  pub move_shown : (x i k : ℕ) (c d : ℤ) → IsNumber (length l.rows) i → IsNumber l.m k → listed_in (row_of l.rows i) k ≡ Some d →
      IsNoWorse l.sense d c → IsShown p x i k c → IsMove l p.objects.now p.prices.now x k
  move_shown x i k c d person object listed worse h = record {
    person = i;
    number = person;
    own = object_is i person ∙ h.own;
    good = record {
      cost = d;
      listed = listed;
      same =
          let sum = sum_is i person in
          let price = price_is k object in
          let turned = ap (λ s. minimised s c) are.sense in
          let order = turned_order l.sense d c worse in
          let good = h.good in
          let least = choice_low l.sense p.prices.now (row_of l.rows i) (own_object p.objects.now i)
          (pair_number (IsChoice l.sense p.prices.now) l.rows p.objects.now i _ 0 are.optimum.choices person.first person.last) k d listed in
          omega (arith, ints);
    };
    other = h.other;
  }

  pub leavable : (j : ℕ) → IsNumber l.m j → get_or p.owned.now (j - 1) false ≡ true → price_at p j ≡ pos 0 → IsArrow l p.objects.now p.prices.now 0 j
  leavable j number owned free =
      let last = number.last in
      let long = are.plan.owned_long in
      let mark = numbered-index p.owned.now j false false number.first (omega arith) in
      inr (inr (record { out = refl; number = number; owned = (are.marks j).0 (mark ∙ owned); free = price_is j number ∙ free }))

  pub leads_out : (x j : ℕ) → IsNumber l.m x → get_or p.owned.now (x - 1) false ≡ false → j ≡ 0 → IsArrow l p.objects.now p.prices.now x j
  leads_out x j number unowned out =
      let last = number.last in
      let long = are.plan.owned_long in
      let mark = numbered-index p.owned.now x false false number.first (omega arith) in
      inr (inl (record {
        number = number;
        unowned = λ c. absurd (true≢false (sym ((are.marks x).1 c) ∙ mark ∙ unowned));
        out = out;
      }))

  -- each listed pair was read
  pub record IsRead (i k : ℕ) (c : ℤ) : Type 0 where
    pub person : IsNumber (length l.rows) i
    pub object : IsNumber l.m k
    pub falls : Falls p i k c

  abbrev pub AllRead : Type 0
  AllRead = (i k : ℕ) (c : ℤ) → listed_in (row_of l.rows i) k ≡ Some c → IsRead i k c

  falls_move : AllRead → (x j : ℕ) → IsMove l p.objects.now p.prices.now x j → group_at p j ≤ group_at p x
  falls_move read x j move =
      let r = read move.person j move.good.cost move.good.listed in
      let same = move.good.same in
      let sum = sum_is move.person r.person in
      let price = price_is j r.object in
      let turned = ap (λ s. minimised s move.good.cost) are.sense in
      let here = r.falls (omega (arith, ints)) in
      let own : object_at p move.person ≡ x = sym (object_is move.person r.person) ∙ move.own in
      subst (λ v. group_at p j ≤ group_at p v) own here

  pub all_fall : AllRead → ((j : ℕ) → j < length p.owned.now → FallsOutAt p j) →
      (x j : ℕ) → IsArrow l p.objects.now p.prices.now x j → group_at p j ≤ group_at p x
  all_fall read outs x j (inl move) = falls_move read x j move
  all_fall read outs x j (inr (inl out)) =
      let first = out.number.first in
      let last = out.number.last in
      let long = are.plan.owned_long in
      let mark = numbered-index p.owned.now x false false first (omega arith) in
      let here = (outs (x - 1) (omega arith)).unowned (λ e. out.unowned ((are.marks x).0 (mark ∙ e))) in
      let group = group_is x out.number in
      subst (λ v. group_at p v ≤ group_at p x) (sym out.out) (omega arith)
  all_fall read outs x j (inr (inr leave)) =
      let first = leave.number.first in
      let last = leave.number.last in
      let long = are.plan.owned_long in
      let mark = numbered-index p.owned.now j false false first (omega arith) in
      let here = (outs (j - 1) (omega arith)).leavable (sym mark ∙ (are.marks j).1 leave.owned) (sym (price_is j leave.number) ∙ leave.free) in
      let group = group_is j leave.number in
      subst (λ v. group_at p j ≤ group_at p v) (sym leave.out) (omega arith)

  module _ (costs : List ℤ) (in_range : AreCosts (length l.rows) l.m costs) (rows : rows_cut l.m (length l.rows) costs ≡ l.rows) where
    pub rows_read : RowsFall p costs → AllRead
    rows_read h i k c at =
        let cut = cut_pair (length l.rows) l.m costs i k c in_range (ap (λ r. listed_in (row_of r i) k) rows ∙ at) in
        let first = cut.person.first in
        let last = cut.person.last in
        let some = cut.object.first in
        let most = cut.object.last in
        let long = part_long l.m (i - 1) costs (part_fits (length l.rows) l.m (i - 1) costs in_range.long (omega arith)) in
        let own_long = are.plan.own_long in
        let prices_long = are.plan.prices_long in
        let P : ℕ → Type 0 = λ m. (j : ℕ) → j < length (part_of m (i - 1) costs) → Falls p (i - 1 + 1) (j + 1) (get_or (part_of m (i - 1) costs) j (pos 0)) in
        let row : P l.m = subst P prices_long (h (i - 1) (omega arith)) in
        let e : i - 1 + 1 ≡ i = omega arith in
        let f : k - 1 + 1 ≡ k = omega arith in
        let falls = row (k - 1) (omega arith) in
        record {
          person = cut.person;
          object = cut.object;
          falls = subst (λ z. Falls p i k z) cut.read (subst (λ z. Falls p i z (get_or (part_of l.m (i - 1) costs) (k - 1) (pos 0))) f
              (subst (λ z. Falls p z (k - 1 + 1) (get_or (part_of l.m (i - 1) costs) (k - 1) (pos 0))) e falls));
        }

    pub row_shown : (place x k : ℕ) → IsNumber l.m k → IsShownInRow p costs place x k → IsMove l p.objects.now p.prices.now x k
    row_shown place x k number h =
        let first = number.first in
        let last = number.last in
        let within = h.within in
        let own_long = are.plan.own_long in
        let below : place < length l.rows = omega arith in
        let e : k - 1 + 1 ≡ k = omega arith in
        let r = row_read l.sense (length l.rows) l.m costs place (k - 1) in_range below (omega arith) in
        let listed = sym (ap (λ q. listed_in (row_of q (place + 1)) (k - 1 + 1)) rows) ∙ r.given.1 in
        let P : ℕ → Type 0 = λ m. IsShown p x (place + 1) k (get_or (part_of m place costs) (k - 1) (pos 0)) in
        move_shown x (place + 1) k (get_or (part_of l.m place costs) (k - 1) (pos 0)) r.given.0 r.person number
        (subst (λ z. listed_in (row_of l.rows (place + 1)) z ≡ Some r.given.0) e listed) r.given.2 (subst P are.plan.prices_long h.shown)

  module _ (pairs : Pairs) (given : ArePairs (length l.rows) l.m pairs) (rows : rows_given l.sense (triples_in pairs) l.m 1 (length l.rows) ≡ l.rows) where
    among : All (IsTripleAmong (length l.rows) l.m) (triples_in pairs)
    among = triples_among pairs.persons.now pairs.objects.now pairs.costs.now given.objects_long given.costs_long
        (length l.rows) l.m given.persons_in given.objects_in given.costs_in

    given_pair : (i j : ℕ) (c : ℤ) → best_given l.sense (triples_in pairs) i j ≡ Some c → Contains (triples_in pairs) (i, j, c)
    given_pair i j c e =
        let best : IsBestGiven l.sense (triples_in pairs) i j (Some c) =
        subst (IsBestGiven l.sense (triples_in pairs) i j) e (best_given_is l.sense (triples_in pairs) i j) in
        best.0

    pub pairs_read : PairsFall p pairs → AllRead
    pairs_read h i k c listed_at =
        let best = sym (rows_list l.sense (triples_in pairs) (length l.rows) l.m among i k) ∙ ap (λ r. listed_in (row_of r i) k) rows ∙ listed_at in
        let at = place_of_triple pairs.persons.now pairs.objects.now pairs.costs.now given.objects_long given.costs_long i k c (given_pair i k c best) in
        let lt = at.below in
        record {
          person = subst (IsNumber (length l.rows)) at.person (given.persons_in at.place 0 lt);
          object = subst (IsNumber l.m) at.object (given.objects_in at.place 0 (let long = given.objects_long in omega arith));
          falls = subst (λ z. Falls p i k z) at.cost (subst (λ z. Falls p i z (get_or pairs.costs.now at.place (pos 0))) at.object
              (subst (λ z. Falls p z (get_or pairs.objects.now at.place 0) (get_or pairs.costs.now at.place (pos 0))) at.person (h at.place lt)));
        }

    pub pair_shown : (place x k : ℕ) → IsShownInPairs p pairs place x k → IsMove l p.objects.now p.prices.now x k
    pair_shown place x k h =
        let i : ℕ = get_or pairs.persons.now place 0 in
        let r = pair_read l.sense pairs (length l.rows) l.m given place h.within in
        let listed = sym (ap (λ z. listed_in (row_of z (get_or pairs.persons.now place 0)) (get_or pairs.objects.now place 0)) rows) ∙ r.given.1 in
        move_shown x i k (get_or pairs.costs.now place (pos 0)) r.given.0 r.person (subst (IsNumber l.m) h.object r.object)
        (subst (λ z. listed_in (row_of l.rows i) z ≡ Some r.given.0) h.object listed) r.given.2 h.shown
