-- The steps of a search over the stored tree.
use Rattle.std.proofs.Common.{◌≡◌, ℕ, pos, neg_ℤ, ◌+◌, ◌+ℤ◌, ◌<ℤ◌, ◌<◌, ◌≤◌, [], ◌∷◌, ◌++◌, length, set, replicate, ap, arith, sym, subst, ◌∙◌, inl, inr}
use Rattle.std.proofs.lemmas.List.{get_or-set_same, get_or-set_other, length-set}
use Rattle.assign_core.specs.Numbered.{IsNumber}
use Rattle.cost_lists.specs.declared.numbers.TheConstants.{UNLISTED}
use Rattle.cost_lists.specs.ListedCosts.{ListedCosts, AreInLimits}
use Rattle.hungarian.specs.declared.plan.Plan.{Plan}
use Rattle.hungarian.specs.declared.tree.Tree.{Tree}
use Rattle.hungarian.specs.inside.Plans.{at, int_at, cost_at, IsChosen}
use Rattle.hungarian.specs.inside.Trees.{IsTree, IsOrder, IsScan, IsStepCost, IsRelaxed, IsWaiting, IsNearest}
use Rattle.hungarian.specs.inside.Stored.{IsTreeLong, IsPlanned, IsSearching, IsSearched}
use Rattle.hungarian.proofs.Costs.{cost_number, costs_or_marks}
use Rattle.hungarian.proofs.Beginning.{tree_begins}
use Rattle.hungarian.proofs.Growing.{none_or_some, path_fits, tree_grows}
use Rattle.hungarian.proofs.Orders.{order_begins, order_grows, too_many}
use Rattle.hungarian.proofs.Assigned.{zeros_at}

-- no object has the number 0 of a path
pub nobody_before : (l : ListedCosts) (plan : Plan) (s t : ℕ) (tree : Tree) → AreInLimits l → IsPlanned l plan →
    IsSearching l plan s t tree → at tree.predecessors.items 0 ≡ 0
nobody_before l plan s t tree lim planned g = elim (none_or_some (at tree.predecessors.items 0)) [
  | inl none ↦ none
  | inr some ↦
      let z = g.long.predecessors_long in
      let step = (g.tree_is.labelled 0 some).step in
      let number = cost_number l (at tree.predecessors.items 0) 0 lim step.listed in
      let first = number.first in absurd (omega arith)
]

-- a search is never full: more persons would be scanned than there are
pub never_full : (l : ListedCosts) (plan : Plan) (s t : ℕ) (tree : Tree) → IsSearching l plan s t tree →
    t < length l.rows
never_full l plan s t tree g = too_many (length l.rows) (at plan.objects.items)
    (at tree.ranks.items) t tree.persons.items g.order

pub closed_search : (l : ListedCosts) (plan : Plan) (s t : ℕ) (tree : Tree) → IsSearching l plan s t tree →
    ((k : ℕ) → ¬ IsWaiting (at tree.predecessors.items) (at tree.ranks.items) k) → IsSearched l plan s tree 0
closed_search l plan s t tree g none = record {
  long = g.long;
  ended = λ h. absurd (omega arith);
  closed = λ e. record { t = t; distance = g.distance; tree = g.tree_is; none = none };
}

module _ (l : ListedCosts) (plan : Plan) (s t : ℕ) (tree : Tree) (j : ℕ) (lim : AreInLimits l)
    (planned : IsPlanned l plan) (g : IsSearching l plan s t tree)
    (near : IsNearest (int_at plan.prices.items) (int_at tree.to_objects.items) (at tree.predecessors.items)
    (at tree.ranks.items) j) (some : 0 < j) (within : j ≤ l.m) where
  pub path_is : IsStepCost (int_at tree.to_objects.items j)
  path_is =
      let few = lim.persons.few in
      let below = never_full l plan s t tree g in
      path_fits (cost_at l) (int_at plan.prices.items) (at plan.owners.items) (at plan.objects.items) s t g.distance
      (int_at tree.to_objects.items) (int_at tree.to_persons.items) (at tree.predecessors.items)
      (at tree.ranks.items) j
      (costs_or_marks l lim) g.tree_is (omega arith) near.waits.labelled

  pub ended_search : (tree2 : Tree) → at plan.owners.items j ≡ 0 → tree2 ≡ record tree { ranks = tree2.ranks } →
      tree2.ranks.items ≡ set tree.ranks.items j (t + 1) → IsSearched l plan s tree2 j
  ended_search tree2 free same ranks =
      subst (λ y. IsSearched l plan s y j) (sym same) (record {
        long = record {
          costs_long = g.long.costs_long;
          predecessors_long = g.long.predecessors_long;
          ranks_long = ap length ranks ∙ length-set tree.ranks.items j (t + 1) ∙ g.long.ranks_long;
          persons_long = g.long.persons_long;
        };
        ended = λ h. record {
          t = t;
          distance = g.distance;
          r = at tree.ranks.items;
          tree = g.tree_is;
          near = near;
          before = never_full l plan s t tree g;
          some = some;
          last = within;
          free = free;
          rank = ap (λ y. at y j) ranks ∙ get_or-set_same tree.ranks.items j (t + 1) 0
              (let e = g.long.ranks_long in omega arith);
          ranks = λ k ne. ap (λ y. at y k) ranks ∙ get_or-set_other tree.ranks.items j k (t + 1) 0 ne;
        };
        closed = λ e. absurd (omega arith);
      })

  module _ (i : ℕ) (owner : at plan.owners.items j ≡ i) (owned : 0 < i) where
    has : at plan.objects.items i ≡ j
    has = let o = planned.plan_is.matched.owned j (omega arith) in ap (at plan.objects.items) (sym owner) ∙ o.back

    pub owner_number : IsNumber (length l.rows) i
    owner_number = let o = planned.plan_is.matched.owned j (omega arith) in let z = o.last in
        record { first = owned; last = omega arith }

    pub owner_listed : cost_at l i j <ℤ UNLISTED
    owner_listed = (subst (IsChosen (cost_at l) (int_at plan.prices.items) i) has
        (planned.plan_is.chosen i (let h = has in omega arith))).listed

    pub grown_search : (tree2 : Tree) → IsTreeLong (length l.rows) l.m tree2 →
        IsScan (cost_at l) t i j (int_at tree.to_objects.items) (int_at tree.to_persons.items)
        (at tree.predecessors.items) (at tree.ranks.items) (int_at tree2.to_objects.items)
        (int_at tree2.to_persons.items) (at tree2.predecessors.items) (at tree2.ranks.items) →
        tree2.persons.items ≡ tree.persons.items ++ i ∷ [] → IsSearching l plan s (t + 1) tree2
    grown_search tree2 long scan persons = record {
      long = long;
      distance = int_at tree.to_objects.items j +ℤ int_at plan.prices.items j;
      tree_is =
          tree_grows (cost_at l) (int_at plan.prices.items) (at plan.owners.items) (at plan.objects.items)
          (length l.rows) l.m s t i j g.distance
          (int_at tree.to_objects.items) (int_at tree.to_persons.items) (at tree.predecessors.items)
          (at tree.ranks.items)
          (int_at tree2.to_objects.items) (int_at tree2.to_persons.items) (at tree2.predecessors.items)
          (at tree2.ranks.items)
          (costs_or_marks l lim) planned.plan_is g.tree_is near some owner owned scan;
      order =
          subst (IsOrder (length l.rows) (at plan.objects.items) (at tree2.ranks.items) (t + 1)) (sym persons)
          (order_grows (length l.rows) (at plan.objects.items) (at tree.ranks.items)
          (at tree2.ranks.items) t i j tree.persons.items g.order owned (let z = owner_number in z.last) has
          scan.rank scan.ranks near.waits.unscanned some);
    }

-- the tree of one person alone
pub first_search : (l : ListedCosts) (plan : Plan) (s : ℕ) (tree tree2 : Tree) → AreInLimits l → IsPlanned l plan →
    IsNumber (length l.rows) s → at plan.objects.items s ≡ 0 →
    tree.predecessors.items ≡ replicate (l.m + 1) 0 → tree.ranks.items ≡ replicate (l.m + 1) 0 →
    tree.to_persons.items ≡ replicate (length l.rows + 1) (pos 0) → tree.persons.items ≡ s ∷ [] →
    IsTreeLong (length l.rows) l.m tree2 →
    ((k : ℕ) → IsRelaxed s (cost_at l s k) (pos 0) (at tree.ranks.items k) (int_at tree.to_objects.items k)
    (at tree.predecessors.items k) (int_at tree2.to_objects.items k) (at tree2.predecessors.items k)) →
    tree2.ranks.items ≡ tree.ranks.items → tree2.to_persons.items ≡ tree.to_persons.items →
    tree2.persons.items ≡ tree.persons.items → IsSearching l plan s 0 tree2
first_search l plan s tree tree2 lim planned number alone e1 e2 e3 e4 long relaxed r2 v2 q2 = record {
  long = long;
  distance = neg_ℤ (pos 1000000000000);
  tree_is =
      subst (λ y. IsTree (cost_at l) (int_at plan.prices.items) (at plan.owners.items) (at plan.objects.items) s 0
      (neg_ℤ (pos 1000000000000)) (int_at tree2.to_objects.items) (int_at tree2.to_persons.items)
      (at tree2.predecessors.items) (at y)) (sym r2)
      (tree_begins (cost_at l) (int_at plan.prices.items) (at plan.owners.items) (at plan.objects.items)
      (length l.rows) l.m s (int_at tree.to_objects.items) (int_at tree2.to_persons.items)
      (at tree.predecessors.items) (at tree.ranks.items)
      (int_at tree2.to_objects.items) (at tree2.predecessors.items)
      (costs_or_marks l lim) planned.plan_is number.first alone
      (λ k. ap (λ y. at y k) e1 ∙ zeros_at (l.m + 1) k 0) unranked
      (ap (λ y. int_at y s) (v2 ∙ e3) ∙ zeros_at (length l.rows + 1) s (pos 0)) relaxed);
  order =
      subst (IsOrder (length l.rows) (at plan.objects.items) (at tree2.ranks.items) 0) (sym (q2 ∙ e4))
      (order_begins (length l.rows) (at plan.objects.items) (at tree2.ranks.items) s number.first number.last alone
      (ap (λ y. at y (at plan.objects.items s)) r2 ∙ unranked (at plan.objects.items s)));
} where
  unranked : (k : ℕ) → at tree.ranks.items k ≡ 0
  unranked k = ap (λ y. at y k) e2 ∙ zeros_at (l.m + 1) k 0
