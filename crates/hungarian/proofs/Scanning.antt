-- A row is relaxed, and an object is scanned.
use Rattle.std.proofs.Common.{◌≡◌, ℕ, ℤ, pos, ◌+◌, ◌-◌, ◌-ℤ◌, ◌<ℤ◌, ◌<◌, ◌≤◌, List, length, set, ap, arith, sym, subst, ◌∙◌, inl, inr}
use Rattle.std.proofs.lemmas.Int.{ints}
use Rattle.std.proofs.lemmas.Bool.{cases_lt}
use Rattle.std.proofs.lemmas.List.{get_or_past, get_or-set_same, get_or-set_other, length-set}
use Rattle.assign_core.specs.Rows.{IsCost}
use Rattle.cost_lists.specs.declared.numbers.TheConstants.{UNLISTED}
use Rattle.cost_lists.specs.ListedCosts.{ListedCosts, AreInLimits}
use Rattle.hungarian.specs.declared.tree.Tree.{Tree}
use Rattle.hungarian.specs.inside.Plans.{at, int_at, cost_at, IsRowOf}
use Rattle.hungarian.specs.inside.Trees.{IsRelaxed, IsScan, IsPathCost, IsStepCost}
use Rattle.hungarian.specs.inside.Stored.{IsTreeLong, AreRelaxed}
use Rattle.hungarian.proofs.Costs.{cost_number, costs_or_marks}
use Rattle.hungarian.proofs.Relaxed.{relaxed_all}

-- a listed object's cost in a row is in range
pub row_cost : (l : ListedCosts) (i k : ℕ) (row : List ℤ) → AreInLimits l → IsRowOf (cost_at l i) row →
    k < length row → cost_at l i k <ℤ UNLISTED → IsCost (int_at row k)
row_cost l i k row lim is less h = subst IsCost (sym (is.each k less)) (costs_or_marks l lim i k h)

-- each cost of a row that isn't the mark is in range
pub row_costs : (l : ListedCosts) (i : ℕ) (row : List ℤ) → AreInLimits l → IsRowOf (cost_at l i) row → (k : ℕ) →
    int_at row k <ℤ UNLISTED → IsCost (int_at row k)
row_costs l i row lim is k h = elim (cases_lt k (length row)) [
  | inl less ↦ row_cost l i k row lim is less (subst (λ y. y <ℤ UNLISTED) (is.each k less) h)
  | inr past ↦
      let e : int_at row k ≡ pos 0 = get_or_past row k (pos 0) past in
      record { least = omega (arith, ints); greatest = omega (arith, ints) }
]

module _ (l : ListedCosts) (tree tree2 : Tree) (i : ℕ) (w : ℤ) (row d2 : List ℤ) (f2 : List ℕ) (lim : AreInLimits l)
    (long : IsTreeLong (length l.rows) l.m tree)
    (row_long : length row ≡ l.m + 1) (is : IsRowOf (cost_at l i) row)
    (costs_long : length d2 ≡ length tree.to_objects.items)
    (persons_long : length f2 ≡ length tree.predecessors.items)
    (relaxed : AreRelaxed i w row tree.ranks.items tree.to_objects.items tree.predecessors.items d2 f2)
    (costs_are : tree2.to_objects.items ≡ d2) (persons_are : tree2.predecessors.items ≡ f2) where
  pub row_relaxed : (k : ℕ) → IsRelaxed i (cost_at l i k) w (at tree.ranks.items k) (int_at tree.to_objects.items k)
      (at tree.predecessors.items k) (int_at tree2.to_objects.items k) (at tree2.predecessors.items k)
  row_relaxed =
      subst (λ y. (k : ℕ) → IsRelaxed i (cost_at l i k) w (at tree.ranks.items k) (int_at tree.to_objects.items k)
      (at tree.predecessors.items k) (int_at tree2.to_objects.items k) (at y k)) (sym persons_are)
      (subst (λ y. (k : ℕ) → IsRelaxed i (cost_at l i k) w (at tree.ranks.items k) (int_at tree.to_objects.items k)
      (at tree.predecessors.items k) (int_at y k) (at f2 k)) (sym costs_are)
      (relaxed_all (cost_at l i) i w row tree.ranks.items tree.to_objects.items tree.predecessors.items d2 f2 is
      (λ k h. let z = (cost_number l i k lim h).last in omega arith)
      (long.costs_long ∙ sym row_long) (long.predecessors_long ∙ sym row_long)
      (costs_long ∙ long.costs_long ∙ sym row_long) (persons_long ∙ long.predecessors_long ∙ sym row_long) relaxed))

  pub relaxed_long : tree2.ranks.items ≡ tree.ranks.items → tree2.to_persons.items ≡ tree.to_persons.items →
      IsTreeLong (length l.rows) l.m tree2
  relaxed_long ranks to_persons = record {
    costs_long = ap length costs_are ∙ costs_long ∙ long.costs_long;
    predecessors_long = ap length persons_are ∙ persons_long ∙ long.predecessors_long;
    ranks_long = ap length ranks ∙ long.ranks_long;
    persons_long = ap length to_persons ∙ long.persons_long;
  }

-- the cost of the path to the owner of an object
pub back_fits : (d c w : ℤ) → IsStepCost d → IsCost c → w ≡ (d -ℤ c) → IsPathCost w
back_fits d c w path cost e =
    let a = path.least in let b = path.greatest in
    let f = cost.least in let g = cost.greatest in
    record { least = omega (arith, ints); greatest = omega (arith, ints) }

-- an object and its owner get their entries, and the path goes on
module _ (l : ListedCosts) (tree mid tree2 : Tree) (i j rank : ℕ) (w : ℤ) (long : IsTreeLong (length l.rows) l.m tree)
    (owner : i ≤ length l.rows) (object : j ≤ l.m) (some : 0 < rank)
    (cost : w ≡ (int_at tree.to_objects.items j -ℤ cost_at l i j))
    (ranks : mid.ranks.items ≡ set tree.ranks.items j rank)
    (to_persons : mid.to_persons.items ≡ set tree.to_persons.items i w)
    (to_objects : mid.to_objects.items ≡ tree.to_objects.items)
    (predecessors : mid.predecessors.items ≡ tree.predecessors.items) where
  pub marked_long : IsTreeLong (length l.rows) l.m mid
  marked_long = record {
    costs_long = ap length to_objects ∙ long.costs_long;
    predecessors_long = ap length predecessors ∙ long.predecessors_long;
    ranks_long = ap length ranks ∙ length-set tree.ranks.items j rank ∙ long.ranks_long;
    persons_long = ap length to_persons ∙ length-set tree.to_persons.items i w ∙ long.persons_long;
  }

  rank_is : at mid.ranks.items j ≡ rank
  rank_is = ap (λ y. at y j) ranks ∙ get_or-set_same tree.ranks.items j rank 0 (let e = long.ranks_long in omega arith)

  cost_is : int_at mid.to_persons.items i ≡ w
  cost_is = ap (λ y. int_at y i) to_persons
      ∙ get_or-set_same tree.to_persons.items i w (pos 0) (let e = long.persons_long in omega arith)

  pub scan_is : ((k : ℕ) → IsRelaxed i (cost_at l i k) w (at mid.ranks.items k) (int_at mid.to_objects.items k)
      (at mid.predecessors.items k) (int_at tree2.to_objects.items k) (at tree2.predecessors.items k)) →
      tree2.ranks.items ≡ mid.ranks.items → tree2.to_persons.items ≡ mid.to_persons.items →
      IsScan (cost_at l) (rank - 1) i j (int_at tree.to_objects.items) (int_at tree.to_persons.items)
      (at tree.predecessors.items) (at tree.ranks.items) (int_at tree2.to_objects.items)
      (int_at tree2.to_persons.items) (at tree2.predecessors.items) (at tree2.ranks.items)
  scan_is relaxed same_ranks same_persons =
      let now : int_at tree2.to_persons.items i ≡ w = ap (λ y. int_at y i) same_persons ∙ cost_is in
      record {
        rank = ap (λ y. at y j) same_ranks ∙ rank_is ∙ (let e : rank ≡ rank - 1 + 1 = omega arith in e);
        ranks = λ k ne. ap (λ y. at y k) (same_ranks ∙ ranks) ∙ get_or-set_other tree.ranks.items j k rank 0 ne;
        cost = now ∙ cost;
        costs = λ q ne. ap (λ y. int_at y q) (same_persons ∙ to_persons)
            ∙ get_or-set_other tree.to_persons.items i q w (pos 0) ne;
        relaxed =
            subst (λ y. (k : ℕ) → IsRelaxed i (cost_at l i k) y (at tree2.ranks.items k)
            (int_at tree.to_objects.items k) (at tree.predecessors.items k) (int_at tree2.to_objects.items k)
            (at tree2.predecessors.items k)) (sym now)
            (subst (λ y. (k : ℕ) → IsRelaxed i (cost_at l i k) w (at y k) (int_at tree.to_objects.items k)
            (at tree.predecessors.items k) (int_at tree2.to_objects.items k) (at tree2.predecessors.items k))
            (sym same_ranks)
            (subst (λ y. (k : ℕ) → IsRelaxed i (cost_at l i k) w (at mid.ranks.items k)
            (int_at tree.to_objects.items k) (at y k) (int_at tree2.to_objects.items k)
            (at tree2.predecessors.items k)) predecessors
            (subst (λ y. (k : ℕ) → IsRelaxed i (cost_at l i k) w (at mid.ranks.items k) (int_at y k)
            (at mid.predecessors.items k) (int_at tree2.to_objects.items k) (at tree2.predecessors.items k))
            to_objects relaxed)));
      }
