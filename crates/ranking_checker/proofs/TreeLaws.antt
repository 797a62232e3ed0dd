-- Where assignments fall, and what those of a part have in common.
use Rattle.std.proofs.Common.{◌≡◌, ◌≢◌, ◌⊎◌, ℕ, zero, suc, ◌<◌, ◌≤◌, ◌-◌, List, length, get_or, set, refl, arith, inl, inr, sym, ap, ◌∙◌}
use Rattle.std.proofs.lemmas.Bool.{cases_lt}
use Rattle.std.proofs.lemmas.Bool.Decides.{eqb_tells}
use Rattle.std.proofs.lemmas.List.{get_or_past, get_or-set_other, get_or-set_same, length-set}
use Rattle.ranking_checker.specs.declared.tree.Tree.{Tree}
use Rattle.ranking_checker.specs.Ranking.{plan_of}
use Rattle.ranking_checker.specs.inside.Trees.{leaf_upto, next_leaf, object_in, parent_at, person_at}

-- a person keeps one more object
pub keep_more : (ys kept : List ℕ) (p x : ℕ) → ((k : ℕ) → (get_or kept k 0 ≡ 0) ⊎ (get_or ys k 0 ≡ get_or kept k 0)) → get_or ys p 0 ≡ x →
    (k : ℕ) → (get_or (set kept p x) k 0 ≡ 0) ⊎ (get_or ys k 0 ≡ get_or (set kept p x) k 0)
keep_more ys kept p x keep same k = elim (eqb_tells k p) [
  | inl t ↦ elim (cases_lt p (length kept)) [
    | inl lt ↦
        let read : get_or (set kept p x) k 0 ≡ x = ap (λ q. get_or (set kept p x) q 0) t.1 ∙ get_or-set_same kept p x 0 lt in
        inr (ap (λ q. get_or ys q 0) t.1 ∙ same ∙ sym read)
    | inr past ↦ let long = length-set kept p x in inl (get_or_past (set kept p x) k 0 (let e = t.1 in omega arith))
  ]
  | inr t ↦
      let read = get_or-set_other kept p k x 0 t.1 in
      elim (keep k) [ inl none ↦ inl (read ∙ none) | inr e ↦ inr (e ∙ sym read) ]
]

module _ (tree : Tree) (ys : List ℕ) where
  -- objects have the same one as a plan's for the person of plan u
  abbrev pub IsSameAt : ℕ → ℕ → Type 0
  IsSameAt u s = object_in ys (person_at tree u) ≡ object_in (plan_of tree.n s tree.plans.now) (person_at tree u)

  -- they part there from plan u's parent, or don't
  abbrev pub IsParted : ℕ → ℕ → Type 0
  IsParted u s = (next_leaf tree ys u s ≡ u) × (parent_at tree u ≡ s) × (IsSameAt u s → ⊥)

  abbrev pub IsLeft : ℕ → ℕ → Type 0
  IsLeft u s = (next_leaf tree ys u s ≡ s) × (parent_at tree u ≡ s → IsSameAt u s)

  pub one_step : (u s : ℕ) → IsParted u s ⊎ IsLeft u s
  one_step u s =
      let x : ℕ = object_in ys (person_at tree u) in
      let y : ℕ = object_in (plan_of tree.n s tree.plans.now) (person_at tree u) in
      elim (eqb_tells (parent_at tree u) s) [
        | inl t ↦ elim (eqb_tells x y) [
          | inl e ↦ inr (rw (t.0, e.0) refl, (λ q. e.1))
          | inr e ↦ inl (rw (t.0, e.0) refl, t.1, e.1)
        ]
        | inr t ↦ inr (rw t.0 refl, (λ q. absurd (t.1 q)))
      ]

  pub leaf_low : (u : ℕ) → leaf_upto tree ys u ≤ u
  leaf_low zero = omega arith
  leaf_low (suc u) =
      let low = leaf_low u in
      elim (one_step (suc u) (leaf_upto tree ys u)) [
        | inl p ↦ let e = p.0 in omega arith
        | inr p ↦ let e = p.0 in omega arith
      ]

  -- in the part of plan u they parted from its parent's objects
  pub parted_back : (u s : ℕ) → 0 < u → leaf_upto tree ys u ≡ s → u ≡ s →
      (leaf_upto tree ys (u - 1) ≡ parent_at tree u) × (IsSameAt u (parent_at tree u) → ⊥)
  parted_back zero s some at same = absurd (omega arith)
  parted_back (suc u) s some at same =
      let back : suc u - 1 ≡ u = omega arith in
      let low = leaf_low u in
      elim (one_step (suc u) (leaf_upto tree ys u)) [
        | inl p ↦ (ap (leaf_upto tree ys) back ∙ sym p.1, (λ h. p.2 (rw (sym p.1) h)))
        | inr p ↦ let e = p.0 in absurd (omega arith)
      ]

  -- in another part they were before, and have its plan's object if that is the parent's
  pub left_back : (u s : ℕ) → 0 < u → leaf_upto tree ys u ≡ s → u ≢ s →
      (leaf_upto tree ys (u - 1) ≡ s) × (parent_at tree u ≡ s → IsSameAt u s)
  left_back zero s some at other = absurd (omega arith)
  left_back (suc u) s some at other =
      let back : suc u - 1 ≡ u = omega arith in
      elim (one_step (suc u) (leaf_upto tree ys u)) [
        | inl p ↦ absurd (other (sym p.0 ∙ at))
        | inr p ↦
            let e : leaf_upto tree ys u ≡ s = sym p.0 ∙ at in
            (ap (leaf_upto tree ys) back ∙ e, (λ q. rw (sym e) (p.1 (q ∙ sym e))))
      ]
