-- The plan at the beginning, and after a search.
use Rattle.std.proofs.Common.{◌≡◌, ℕ, ℤ, pos, ◌+◌, ◌-◌, ◌-ℤ◌, ◌<◌, List, length, get_or, replicate, drop, ap, arith, refl, sym, subst, ◌∙◌, inl, inr}
use Rattle.std.proofs.lemmas.Int.{ints}
use Rattle.std.proofs.lemmas.Bool.{cases_lt, cases_eq}
use Rattle.std.proofs.lemmas.List.{get_or-replicate, get_or_past, length-replicate}
use Rattle.assign_core.specs.Numbered.{IsNumber}
use Rattle.cost_lists.specs.ListedCosts.{ListedCosts, AreInLimits}
use Rattle.cost_lists.specs.Exact.{IsPriceInLimits, IsOptimum}
use Rattle.hungarian.specs.declared.plan.Plan.{Plan}
use Rattle.hungarian.specs.declared.tree.Tree.{Tree}
use Rattle.hungarian.specs.inside.Plans.{at, int_at, cost_at, IsPlan}
use Rattle.hungarian.specs.inside.Trees.{IsEnded, IsRaised, IsFlip, IsServed}
use Rattle.hungarian.specs.inside.Stored.{IsPlanned, IsAssignedTo, IsSearched, IsFlippable, FlipsTo, AreScanned}
use Rattle.assign_core.specs.Hall.{IsHallSet}
use Rattle.hungarian.proofs.Costs.{costs_or_marks}
use Rattle.hungarian.proofs.Ending.{may_raise, may_flip}
use Rattle.hungarian.proofs.HallLists.{hall_set_is}
use Rattle.hungarian.proofs.Optima.{optimum_is}
use Rattle.hungarian.proofs.Growing.{none_or_some}

pub zeros_at : {A : Type 0} (n k : ℕ) (d : A) → get_or (replicate n d) k d ≡ d
zeros_at n k d = elim (cases_lt k n) [
  | inl less ↦ get_or-replicate n k d d less
  | inr past ↦ get_or_past (replicate n d) k d (let e = length-replicate n d in omega arith)
]

module _ (l : ListedCosts) (plan : Plan) (prices : plan.prices.items ≡ replicate (l.m + 1) (pos 0))
    (owners : plan.owners.items ≡ replicate (l.m + 1) 0)
    (objects : plan.objects.items ≡ replicate (length l.rows + 1) 0) where
  no_owner : (j : ℕ) → at plan.owners.items j ≡ 0
  no_owner j = ap (λ y. at y j) owners ∙ zeros_at (l.m + 1) j 0

  no_object : (i : ℕ) → at plan.objects.items i ≡ 0
  no_object i = ap (λ y. at y i) objects ∙ zeros_at (length l.rows + 1) i 0

  no_price : (j : ℕ) → int_at plan.prices.items j ≡ pos 0
  no_price j = ap (λ y. int_at y j) prices ∙ zeros_at (l.m + 1) j (pos 0)

  pub planned_first : IsPlanned l plan
  planned_first = record {
    long = record {
      prices_long = ap length prices ∙ length-replicate (l.m + 1) (pos 0);
      owners_long = ap length owners ∙ length-replicate (l.m + 1) 0;
      objects_long = ap length objects ∙ length-replicate (length l.rows + 1) 0;
    };
    plan_is = record {
      matched = record {
        nothing = no_owner 0;
        owned = λ j h. let z = no_owner j in absurd (omega arith);
        owning = λ i h. let z = no_object i in absurd (omega arith);
      };
      chosen = λ i h. let z = no_object i in absurd (omega arith);
      priced = λ k. let z = no_price k in record { least = omega (arith, ints); greatest = omega (arith, ints) };
      free = λ j h. no_price j;
    };
  }

  pub assigned_first : IsAssignedTo 0 plan.objects.items
  assigned_first = record {
    assigned = λ i some last. absurd (omega arith);
    fresh = λ i h. no_object i;
  }

module _ (l : ListedCosts) (plan : Plan) (tree : Tree) (s e : ℕ) (lim : AreInLimits l) (planned : IsPlanned l plan)
    (number : IsNumber (length l.rows) s) (searched : IsSearched l plan s tree e) (some : 0 < e) where
  ended : IsEnded (cost_at l) (length l.rows) l.m (int_at plan.prices.items) (at plan.owners.items)
      (at plan.objects.items) s e (int_at tree.to_objects.items) (int_at tree.to_persons.items)
      (at tree.predecessors.items) (at tree.ranks.items)
  ended = searched.ended some

  pub end_within : e < length tree.to_objects.items
  end_within = let a = ended.last in let b = searched.long.costs_long in omega arith

  pub raise_fits : (k : ℕ) → 0 < at tree.ranks.items k →
      IsPriceInLimits (int_at tree.to_objects.items e -ℤ int_at tree.to_objects.items k)
  raise_fits k ranked =
      let few = lim.persons.few in
      may_raise (cost_at l) (int_at plan.prices.items) (at plan.owners.items) (at plan.objects.items)
      (length l.rows) l.m s ended.t e ended.distance (int_at tree.to_objects.items) (int_at tree.to_persons.items)
      (at tree.predecessors.items) ended.r (at tree.ranks.items)
      (costs_or_marks l lim) planned.plan_is ended.tree ended.near number.last
      (omega arith) ended.before some ended.last ended.free ended.rank ended.ranks k ranked

  module _ (prices : List ℤ) (raised : IsRaised (int_at plan.prices.items) (int_at tree.to_objects.items)
      (at tree.ranks.items) e (int_at prices)) where
    pub flip_is : IsFlip (cost_at l) (int_at prices) (length l.rows) l.m (at plan.owners.items)
        (at plan.objects.items) s e (at tree.predecessors.items) (at tree.ranks.items)
    flip_is =
        let few = lim.persons.few in
        may_flip (cost_at l) (int_at plan.prices.items) (at plan.owners.items) (at plan.objects.items)
        (length l.rows) l.m s ended.t e ended.distance (int_at tree.to_objects.items)
        (int_at tree.to_persons.items) (at tree.predecessors.items) ended.r (at tree.ranks.items)
        (costs_or_marks l lim) planned.plan_is ended.tree ended.near number.last
        (omega arith) ended.before some ended.last ended.free ended.rank ended.ranks (int_at prices) raised

    pub flippable : IsFlippable plan.owners.items plan.objects.items tree.predecessors.items tree.ranks.items e
    flippable = record {
      n = length l.rows;
      m = l.m;
      objects_long = planned.long.objects_long;
      owners_long = planned.long.owners_long;
      predecessors_long = searched.long.predecessors_long;
      costs = cost_at l;
      prices = int_at prices;
      first = s;
      flip = flip_is;
    }

    module _ (plan2 : Plan) (owners2 objects2 : List ℕ) (prices_are : plan2.prices.items ≡ prices)
        (owners_are : plan2.owners.items ≡ owners2) (objects_are : plan2.objects.items ≡ objects2)
        (prices_long : length prices ≡ length plan.prices.items)
        (owners_long : length owners2 ≡ length plan.owners.items)
        (objects_long : length objects2 ≡ length plan.objects.items)
        (flips : FlipsTo plan.owners.items plan.objects.items tree.predecessors.items tree.ranks.items e owners2
        objects2) (before : IsAssignedTo (s - 1) plan.objects.items) where
      flipped : IsPlan (cost_at l) (length l.rows) l.m (int_at prices) (at owners2) (at objects2) × IsServed s
          (at plan.objects.items) (at objects2)
      flipped = flips (cost_at l) (length l.rows) l.m (int_at prices) s flip_is

      pub planned_next : IsPlanned l plan2
      planned_next = record {
        long = record {
          prices_long = ap length prices_are ∙ prices_long ∙ planned.long.prices_long;
          owners_long = ap length owners_are ∙ owners_long ∙ planned.long.owners_long;
          objects_long = ap length objects_are ∙ objects_long ∙ planned.long.objects_long;
        };
        plan_is =
            subst (λ y. IsPlan (cost_at l) (length l.rows) l.m (int_at plan2.prices.items) (at plan2.owners.items)
            (at y)) (sym objects_are)
            (subst (λ y. IsPlan (cost_at l) (length l.rows) l.m (int_at plan2.prices.items) (at y) (at objects2))
            (sym owners_are)
            (subst (λ y. IsPlan (cost_at l) (length l.rows) l.m (int_at y) (at owners2) (at objects2))
            (sym prices_are) flipped.0));
      }

      pub assigned_next : IsAssignedTo s plan2.objects.items
      assigned_next = subst (IsAssignedTo s) (sym objects_are) (record {
        assigned = λ i first last. elim (cases_eq i s) [
          | inl same ↦ subst (λ y. 0 < at objects2 y) (sym same) flipped.1.assigned
          | inr ne ↦ flipped.1.kept i (before.assigned i first (omega arith))
        ];
        fresh = λ i h. flipped.1.fresh i (before.fresh i (omega arith)) (λ same. omega arith);
      })

-- a search without an end, and the lists of what is scanned
pub refuted : (l : ListedCosts) (plan : Plan) (tree : Tree) (s : ℕ) (persons objects : List ℕ) → AreInLimits l →
    IsPlanned l plan → IsNumber (length l.rows) s → IsSearched l plan s tree 0 →
    AreScanned s tree.ranks.items plan.objects.items persons objects → IsHallSet l.rows persons objects
refuted l plan tree s persons objects lim planned number searched lists =
    let closed = searched.closed refl in
    hall_set_is l plan.prices.items plan.owners.items plan.objects.items tree.ranks.items s closed.t closed.distance
    (int_at tree.to_objects.items) (int_at tree.to_persons.items) (at tree.predecessors.items) persons objects
    lim planned.plan_is closed.tree
    (λ k unscanned. elim (none_or_some (at tree.predecessors.items k)) [
      | inl none ↦ none
      | inr labelled ↦ absurd (closed.none k (record { labelled = labelled; unscanned = unscanned }))
    ])
    number.last planned.long.objects_long lists

-- each object has a place among the ranks
pub objects_within : (l : ListedCosts) (plan : Plan) (tree : Tree) (s e : ℕ) → IsPlanned l plan →
    IsSearched l plan s tree e → (i : ℕ) → at plan.objects.items i < length tree.ranks.items
objects_within l plan tree s e planned searched i =
    let long = searched.long.ranks_long in
    elim (none_or_some (at plan.objects.items i)) [
      | inl none ↦ omega arith
      | inr some ↦ let own = (planned.plan_is.matched.owning i some).last in omega arith
    ]

-- a plan in which each person has an object
pub finished : (l : ListedCosts) (plan : Plan) (xs : List ℕ) (ps : List ℤ) → AreInLimits l → IsPlanned l plan →
    IsAssignedTo (length l.rows) plan.objects.items →
    xs ≡ drop 1 plan.objects.items → ps ≡ drop 1 plan.prices.items → IsOptimum l xs ps
finished l plan xs ps lim planned assigned e g =
    subst (IsOptimum l xs) (sym g)
    (subst (λ y. IsOptimum l y (drop 1 plan.prices.items)) (sym e)
    (optimum_is l plan.prices.items plan.owners.items plan.objects.items lim planned.plan_is planned.long.objects_long
    planned.long.prices_long assigned.assigned))
