-- In each part no assignment but its plan is cheaper than the last plan.
use Rattle.std.proofs.Common.{◌≡◌, ◌≢◌, ℕ, ℤ, pos, zero, suc, ◌+ℤ◌, ◌-ℤ◌, ◌≤ℤ◌, ◌<ℤ◌, ◌<◌, ◌≤◌, ◌-◌, ◌+◌, ◌*◌, List, [], Bool, true, false, IsTrue, length, get_or, refl, arith, rules, inl, inr, ap, subst, ◌∙◌}
use Rattle.std.proofs.lemmas.Int.{ints, by_lt_z}
use Rattle.std.proofs.lemmas.Bool.{cases_lt}
use Rattle.assign_core.specs.declared.sense.Sense.{Sense}
use Rattle.assign_core.specs.declared.sense.Sense.TheVariants.{Min, Max}
use Rattle.assign_core.specs.Assignment.{IsAssignment, IsNoWorse, total}
use Rattle.cost_lists.specs.Exact.{IsOptimum}
use Rattle.cost_lists.specs.ListedCosts.{AreInLimits, ListedCosts}
use Rattle.cost_lists.specs.Own.{minimised}
use Rattle.cost_lists.proofs.ExactDuality.{best_exact}
use Rattle.cost_lists.proofs.Owns.{turned_order}
use Rattle.plan_checker.specs.declared.rank.TheConstants.{NO_BOUND}
use Rattle.plan_checker.specs.Next.{excess}
use Rattle.plan_checker.proofs.RankLaws.{below_all, optimum_bounds, pair_within, ranks_keep_away, ranks_leave_none}
use Rattle.ranking_checker.specs.declared.tree.Tree.{Tree}
use Rattle.ranking_checker.specs.Ranking.{AreAll, AreCosts, AreFirst, AreInOrder, IsAmong, plan_of}
use Rattle.ranking_checker.specs.inside.Core.{AreLow}
use Rattle.ranking_checker.specs.inside.Parts.{AreLeast, AreTotals, HaveParts, IsShown, Rise, bound_of, margin_at}
use Rattle.ranking_checker.specs.inside.Trees.{IsTree, leaf_of}
use Rattle.ranking_checker.proofs.TreeLaws.{leaf_low}

-- from turned costs
pub no_worse : (sense : Sense) (a b : ℤ) → minimised sense a ≤ℤ minimised sense b → IsNoWorse sense a b
no_worse Min a b h = h
no_worse Max a b h = omega (arith, ints)

module _ (l : ListedCosts) (xs : List ℕ) (prices : List ℤ) (limits : AreInLimits l) (o : IsOptimum l xs prices) where
  -- an assignment of small excess has pairs of low reduced cost alone
  pub low_by_excess : (bound : ℤ) (ys : List ℕ) → IsAssignment l.rows ys → excess l.sense l.rows xs ys <ℤ bound → AreLow bound l xs prices ys
  low_by_excess bound ys g less zero number = let some = number.first in absurd (omega arith)
  low_by_excess bound ys g less (suc i) number =
      let last = number.last in
      let within = pair_within l xs limits o.assigned ys g prices (optimum_bounds l xs limits o.assigned ys g prices o) i (omega arith) in
      omega (arith, ints)

  -- without a bound each one has
  pub low_without : (ys : List ℕ) → AreLow NO_BOUND l xs prices ys
  low_without ys zero number = let some = number.first in absurd (omega arith)
  low_without ys (suc i) number =
      let last = number.last in
      below_all l.sense prices (get_or l.rows i []) (get_or xs i 0) (get_or ys i 0) o.in_range (limits.costs i [] (omega arith))

  module _ (bound : ℤ) (tree : Tree) (t : ℕ) (margin : ℤ) (shown : IsShown bound l xs prices tree t margin)
      (g : IsAssignment l.rows (plan_of tree.n t tree.plans.now)) (own : leaf_of tree (plan_of tree.n t tree.plans.now) ≡ t)
      (low : AreLow bound l xs prices (plan_of tree.n t tree.plans.now)) where
    in_part : (ys : List ℕ) → IsAssignment l.rows ys → leaf_of tree ys ≡ t → AreLow bound l xs prices ys → IsAssignment shown.part.rows ys
    in_part ys a at under = record { listed = shown.is.listed ys a.listed at under; apart = a.apart }

    -- another assignment of the part costs so much more than its plan
    pub more_in_part : (ys : List ℕ) → IsAssignment l.rows ys → leaf_of tree ys ≡ t → AreLow bound l xs prices ys →
        ys ≢ plan_of tree.n t tree.plans.now → margin ≤ℤ excess l.sense l.rows (plan_of tree.n t tree.plans.now) ys
    more_in_part ys a at under other =
        let best = ranks_keep_away margin shown.part (plan_of tree.n t tree.plans.now) shown.own_prices shown.ranks shown.count shown.others shown.is.limits shown.optimum shown.ranked in
        let more = best.others ys (in_part ys a at under) other in
        let first = ap (minimised l.sense) (shown.is.cost (plan_of tree.n t tree.plans.now) g.listed own low) in
        let second = ap (minimised l.sense) (shown.is.cost ys a.listed at under) in
        let turned = ap (λ s. minimised s (total shown.part.rows ys)) shown.is.same in
        let own_turned = ap (λ s. minimised s (total shown.part.rows (plan_of tree.n t tree.plans.now))) shown.is.same in
        omega (arith, ints)

  -- and there is no other where ranks have no bound
  pub none_in_part : (tree : Tree) (t : ℕ) → IsShown NO_BOUND l xs prices tree t NO_BOUND →
      (ys : List ℕ) → IsAssignment l.rows ys → leaf_of tree ys ≡ t → ys ≡ plan_of tree.n t tree.plans.now
  none_in_part tree t shown ys a at =
      let alone = ranks_leave_none shown.part (plan_of tree.n t tree.plans.now) shown.own_prices shown.ranks shown.count shown.others shown.is.limits shown.optimum shown.ranked in
      alone.only ys (record { listed = shown.is.listed ys a.listed at (low_without ys); apart = a.apart })

-- costs that rise one by one
pub rises_to : (sense : Sense) (totals : List ℤ) → Rise sense totals → (s t : ℕ) → s ≤ t → t < length totals →
    minimised sense (get_or totals s (pos 0)) ≤ℤ minimised sense (get_or totals t (pos 0))
rises_to sense totals rise s zero le lt =
    let e : s ≡ zero = omega arith in
    let same = ap (λ k. minimised sense (get_or totals k (pos 0))) e in
    omega (arith, ints)
rises_to sense totals rise s (suc t) le lt = elim (cases_lt s (suc t)) [
  | inl less ↦
      let before = rises_to sense totals rise s t (omega arith) (omega arith) in
      let step = turned_order sense _ _ (rise t (omega arith)) in
      let e : t + 1 ≡ suc t = omega arith in
      let same = ap (λ k. minimised sense (get_or totals k (pos 0))) e in
      omega (arith, ints)
  | inr past ↦
      let e : s ≡ suc t = omega arith in
      let same = ap (λ k. minimised sense (get_or totals k (pos 0))) e in
      omega (arith, ints)
]

module _ (l : ListedCosts) (xs : List ℕ) (prices : List ℤ) (limits : AreInLimits l) (o : IsOptimum l xs prices) (tree : Tree) (totals : List ℤ)
    (is : IsTree tree) (are : AreTotals l.rows tree totals) where
  abbrev plan_at : ℕ → List ℕ
  plan_at t = plan_of tree.n t tree.plans.now

  abbrev last : ℕ
  last = tree.count - 1

  turned_is : (t : ℕ) → t < tree.count → minimised l.sense (get_or totals t (pos 0)) ≡ minimised l.sense (total l.rows (plan_at t))
  turned_is t lt = ap (minimised l.sense) (are.cost t lt)

  last_is : minimised l.sense (get_or totals (length totals - 1) (pos 0)) ≡ minimised l.sense (total l.rows (plan_at last))
  last_is =
      let some = is.some in
      ap (λ k. minimised l.sense (get_or totals (k - 1) (pos 0))) are.long ∙ turned_is last (omega arith)

  module _ (first margin : ℤ) (first_is : first ≡ total l.rows xs)
      (margin_is : margin ≡ minimised l.sense (get_or totals (length totals - 1) (pos 0)) -ℤ minimised l.sense first) where
    -- where the last plan costs as little as the best there is nothing else to show
    pub least_by_best : margin ≤ℤ pos 0 → AreLeast l.sense l.rows tree false
    least_by_best low = record {
      others = λ ys g none.
          let best = turned_order l.sense _ _ ((best_exact l xs prices limits o).best ys g) in
          let cost = last_is in
          let own = ap (minimised l.sense) first_is in
          no_worse l.sense (total l.rows (plan_at last)) (total l.rows ys) (omega (arith, ints));
      all = λ yes. absurd (search rules);
    }

    module _ (parts : HaveParts tree) (rise : Rise l.sense totals) where
      -- no plan costs more than the last
      most : (t : ℕ) → t < tree.count → minimised l.sense (total l.rows (plan_at t)) ≤ℤ minimised l.sense (total l.rows (plan_at last))
      most t lt =
          let long = are.long in
          let up = rises_to l.sense totals rise t (length totals - 1) (omega arith) (omega arith) in
          let here = turned_is t lt in
          let there = last_is in
          omega (arith, ints)

      leaf_in : (ys : List ℕ) → leaf_of tree ys < tree.count
      leaf_in ys = let low = leaf_low tree ys (tree.count - 1) in let some = is.some in omega arith

      -- no other assignment costs less than the last plan, part by part
      least_in_parts : (bound : ℤ) → bound ≡ margin +ℤ pos 1 →
          ((t : ℕ) → t < tree.count → IsShown bound l xs prices tree t (margin_at l.sense false totals t)) →
          (ys : List ℕ) → IsAssignment l.rows ys → ¬ IsAmong tree.n tree.count tree.plans.now ys →
          minimised l.sense (total l.rows (plan_at last)) ≤ℤ minimised l.sense (total l.rows ys)
      least_in_parts bound bound_is shown ys g none =
          let cost = last_is in
          let own = ap (minimised l.sense) first_is in
          by_lt_z {P = minimised l.sense (total l.rows (plan_at last)) ≤ℤ minimised l.sense (total l.rows ys)} (excess l.sense l.rows xs ys) bound
          (λ less.
          let t : ℕ = leaf_of tree ys in
          let lt : t < tree.count = leaf_in ys in
          let up = most t lt in
          let here = turned_is t lt in
          let low = low_by_excess l xs prices limits o bound (plan_at t) (are.assigned t lt) (omega (arith, ints)) in
          let more = more_in_part l xs prices limits o bound tree t (margin_at l.sense false totals t) (shown t lt) (are.assigned t lt) (parts t lt) low ys g refl
          (low_by_excess l xs prices limits o bound ys g less) (λ e. none (t, lt, e)) in
          omega (arith, ints))
          (λ upto. omega (arith, ints))

      pub least_by_parts : (is_all : Bool) (bound : ℤ) → bound ≡ bound_of is_all margin →
          ((t : ℕ) → t < tree.count → IsShown bound l xs prices tree t (margin_at l.sense is_all totals t)) → AreLeast l.sense l.rows tree is_all
      least_by_parts false bound bound_is shown = record {
        others = λ ys g none. no_worse l.sense (total l.rows (plan_at last)) (total l.rows ys) (least_in_parts bound bound_is shown ys g none);
        all = λ yes. absurd (search rules);
      }
      least_by_parts true bound bound_is shown =
          let all : (ys : List ℕ) → IsAssignment l.rows ys → IsAmong tree.n tree.count tree.plans.now ys = λ ys g. (
            leaf_of tree ys,
            leaf_in ys,
            none_in_part l xs prices limits o tree (leaf_of tree ys)
                (subst (λ b. IsShown b l xs prices tree (leaf_of tree ys) NO_BOUND) bound_is (shown (leaf_of tree ys) (leaf_in ys))) ys g refl,
          ) in
          record { others = λ ys g none. absurd (none (all ys g)); all = λ _. all }

-- plans that were checked, by the number of persons
module _ (l : ListedCosts) (tree : Tree) (totals : List ℤ) (is : IsTree tree) (same : tree.n ≡ length l.rows) (parts : HaveParts tree)
    (are : AreTotals l.rows tree totals) (rise : Rise l.sense totals) where
  pub in_order : AreInOrder l.sense l.rows tree.count tree.plans.now
  in_order = record {
    some = is.some;
    long = subst (λ n. length tree.plans.now ≡ tree.count * n) same is.plans_long;
    assigned = λ t lt. subst (λ n. IsAssignment l.rows (plan_of n t tree.plans.now)) same (are.assigned t lt);
    apart = λ s t less lt. subst (λ n. plan_of n s tree.plans.now ≢ plan_of n t tree.plans.now) same
        (λ e. let first = parts s (omega arith) in let second = parts t lt in let both = ap (leaf_of tree) e in absurd (omega arith));
    rise = λ s t less lt. subst (λ n. IsNoWorse l.sense (total l.rows (plan_of n s tree.plans.now)) (total l.rows (plan_of n t tree.plans.now))) same
        (let long = are.long in
        let up = rises_to l.sense totals rise s t (omega arith) (omega arith) in
        let first = ap (minimised l.sense) (are.cost s (omega arith)) in
        let second = ap (minimised l.sense) (are.cost t lt) in
        no_worse l.sense _ _ (omega (arith, ints)));
  }

  pub are_first_plans : (is_all : Bool) → AreLeast l.sense l.rows tree is_all → AreFirst l.sense l.rows tree.count tree.plans.now
  are_first_plans is_all least = record {
    order = in_order;
    others = subst (λ n. (ys : List ℕ) → IsAssignment l.rows ys → ¬ IsAmong n tree.count tree.plans.now ys →
        IsNoWorse l.sense (total l.rows (plan_of n (tree.count - 1) tree.plans.now)) (total l.rows ys)) same least.others;
  }

  pub are_all_plans : (is_all : Bool) → AreLeast l.sense l.rows tree is_all → IsTrue is_all → AreAll l.sense l.rows tree.count tree.plans.now
  are_all_plans is_all least wanted = record {
    order = in_order;
    all = subst (λ n. (ys : List ℕ) → IsAssignment l.rows ys → IsAmong n tree.count tree.plans.now ys) same (least.all wanted);
  }

  pub are_costs : AreCosts l.rows tree.count tree.plans.now totals
  are_costs = record {
    long = are.long;
    each = λ t lt. subst (λ n. get_or totals t (pos 0) ≡ total l.rows (plan_of n t tree.plans.now)) same (are.cost t lt);
  }
