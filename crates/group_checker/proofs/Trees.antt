-- Vertices of a group reach each other over its root.
use Rattle.std.proofs.Common.{◌≡◌, ℕ, ℤ, ◌<◌, ◌≤◌, ◌+◌, zero, suc, List, [], ◌∷◌, true, false, get_or, inl, inr, refl, arith, ap, sym, subst}
use Rattle.cost_lists.specs.ListedCosts.{ListedCosts}
use Rattle.group_checker.specs.declared.plan.Plan.{Plan}
use Rattle.group_checker.specs.declared.tree.Tree.{Tree}
use Rattle.group_checker.specs.Groups.{AreGroups, IsArrow, Leads, Reaches}
use Rattle.group_checker.specs.inside.Reading.{IsLinked, IsPlanOf, depth_at, group_at, neighbour_at}

module _ (l : ListedCosts) (xs : List ℕ) (prices : List ℤ) where
  pub goes_on : (x v j : ℕ) → IsArrow l xs prices x v → Reaches l xs prices v j → Reaches l xs prices x j
  goes_on x v j arrow (vs, leads) = (v ∷ vs, (arrow, leads))

  then_leads : (x : ℕ) (vs : List ℕ) (v j : ℕ) → Leads l xs prices x vs v → Reaches l xs prices v j → Reaches l xs prices x j
  then_leads x [] v j leads more = subst (λ k. Reaches l xs prices k j) (sym leads) more
  then_leads x (w ∷ ws) v j leads more = goes_on x w j leads.0 (then_leads w ws v j leads.1 more)

  pub reaches_on : (x v j : ℕ) → Reaches l xs prices x v → Reaches l xs prices v j → Reaches l xs prices x j
  reaches_on x v j (vs, leads) more = then_leads x vs v j leads more

  pub one_arrow : (x j : ℕ) → IsArrow l xs prices x j → Reaches l xs prices x j
  one_arrow x j arrow = (j ∷ [], (arrow, refl))

  never_up : (out : ℕ) (f : ℕ → ℕ) → ((x j : ℕ) → IsArrow l xs prices x j → f j ≤ f x) → (x : ℕ) (vs : List ℕ) (j : ℕ) → Leads l xs prices x vs j → f j ≤ f x
  never_up out f falls x [] j leads = let same = ap f leads in omega arith
  never_up out f falls x (v ∷ vs) j leads =
      let first = falls x v leads.0 in
      let later = never_up out f falls v vs j leads.1 in
      omega arith

module _ (l : ListedCosts) (p : Plan) (roots : List ℕ) where
  root_of : ℕ → ℕ
  root_of v = get_or roots (group_at p v) 0

  module _ (t : Tree) (linked : (v : ℕ) → v ≤ l.m → IsLinked true l p t roots v) where
    to_root : (d v : ℕ) → depth_at t v < d → v ≤ l.m → Reaches l p.objects.now p.prices.now v (root_of v)
    unfolding root_of
    to_root zero v near within = absurd (omega arith)
    to_root (suc d) v near within = elim (linked v within) [
      | inl root ↦ ([], sym root.root)
      | inr joined ↦
          let nearer = joined.nearer in
          let rest = to_root d (neighbour_at t v) (omega arith) joined.vertex in
          let same : root_of (neighbour_at t v) ≡ root_of v = ap (λ g. get_or roots g 0) joined.same in
          goes_on l p.objects.now p.prices.now v (neighbour_at t v) (root_of v) joined.arrow (subst (Reaches l p.objects.now p.prices.now (neighbour_at t v)) same rest)
    ]

  module _ (t : Tree) (linked : (v : ℕ) → v ≤ l.m → IsLinked false l p t roots v) where
    from_root : (d v : ℕ) → depth_at t v < d → v ≤ l.m → Reaches l p.objects.now p.prices.now (root_of v) v
    unfolding root_of
    from_root zero v near within = absurd (omega arith)
    from_root (suc d) v near within = elim (linked v within) [
      | inl root ↦ ([], root.root)
      | inr joined ↦
          let nearer = joined.nearer in
          let rest = from_root d (neighbour_at t v) (omega arith) joined.vertex in
          let same : root_of (neighbour_at t v) ≡ root_of v = ap (λ g. get_or roots g 0) joined.same in
          reaches_on l p.objects.now p.prices.now (root_of v) (neighbour_at t v) v (subst (λ r. Reaches l p.objects.now p.prices.now r (neighbour_at t v)) same rest)
          (one_arrow l p.objects.now p.prices.now (neighbour_at t v) v joined.arrow)
    ]

-- what the numbers and both trees show
pub groups_shown : (l : ListedCosts) (p : Plan) (roots : List ℕ) (towards from : Tree) → IsPlanOf l p →
    ((x j : ℕ) → IsArrow l p.objects.now p.prices.now x j → group_at p j ≤ group_at p x) →
    ((v : ℕ) → v ≤ l.m → IsLinked true l p towards roots v) → ((v : ℕ) → v ≤ l.m → IsLinked false l p from roots v) →
    AreGroups l p.objects.now p.prices.now p.groups.now
unfolding root_of
groups_shown l p roots towards from are falls to back = record {
  long = are.plan.groups_long;
  out = p.out;
  falls = falls;
  same = λ x j first second. (
    (λ e.
        let same : root_of l p roots x ≡ root_of l p roots j = ap (λ g. get_or roots g 0) e in (
          reaches_on l p.objects.now p.prices.now x (root_of l p roots x) j
              (to_root l p roots towards to (depth_at towards x + 1) x (omega arith) first)
              (subst (λ r. Reaches l p.objects.now p.prices.now r j) (sym same) (from_root l p roots from back (depth_at from j + 1) j (omega arith) second)),
          reaches_on l p.objects.now p.prices.now j (root_of l p roots j) x
              (to_root l p roots towards to (depth_at towards j + 1) j (omega arith) second)
              (subst (λ r. Reaches l p.objects.now p.prices.now r x) same (from_root l p roots from back (depth_at from x + 1) x (omega arith) first)),
        )),
    (λ both.
        let down = never_up l p.objects.now p.prices.now p.out (group_at p) falls x both.0.0 j both.0.1 in
        let up = never_up l p.objects.now p.prices.now p.out (group_at p) falls j both.1.0 x both.1.1 in
        omega arith),
  );
}
