-- The best of the costs that are given for a pair.
use Rattle.std.proofs.Common.{◌≡◌, ℕ, ℤ, List, [], ◌∷◌, Option, None, Some, nat_eq, cond, ◌&&◌, true, false, refl, ap, arith, sym, subst, ◌∙◌, inl, inr, ◌⊎◌}
use Rattle.std.specs.List.{Contains}
use Rattle.std.specs.Int.{int_min, int_max}
use Rattle.std.proofs.lemmas.Int.{ints, clamps, by_lt_z}
use Rattle.std.proofs.lemmas.Bool.Decides.{eqb_tells}
use Rattle.assign_core.specs.declared.sense.Sense.{Sense}
use Rattle.assign_core.specs.declared.sense.Sense.TheVariants.{Min, Max}
use Rattle.assign_core.specs.Assignment.{IsNoWorse}
use Rattle.assign_core.specs.Sparse.{Triple}
use Rattle.assign_core.proofs.Members.{contains_first, contains_later, first_or_later}
use Rattle.cost_lists.specs.Given.{IsBestGiven, best_given, better_cost}

-- the test of a triple's person and object
same_pair : (t : Triple) (i j : ℕ) → ((nat_eq t.0 i && nat_eq t.1 j ≡ true) × ((t.0 ≡ i) × (t.1 ≡ j))) ⊎
    ((nat_eq t.0 i && nat_eq t.1 j ≡ false) × (((t.0 ≡ i) × (t.1 ≡ j)) → ⊥))
same_pair t i j = elim (eqb_tells t.0 i) [
  | inl p ↦ elim (eqb_tells t.1 j) [
    | inl o ↦ inl (rw (p.0, o.0) refl, (p.1, o.1))
    | inr o ↦ inr (rw (p.0, o.0) refl, λ h. o.1 h.1)
  ]
  | inr p ↦ inr (rw p.0 refl, λ h. p.1 h.0)
]

pub no_worse_than_itself : (sense : Sense) (a : ℤ) → IsNoWorse sense a a
no_worse_than_itself Min a = omega (arith, ints)
no_worse_than_itself Max a = omega (arith, ints)

-- of two costs the better is one of them, and no worse than both
abbrev IsBetterOf : Sense → ℤ → ℤ → ℤ → Type 0
IsBetterOf sense a b c = ((c ≡ a) ⊎ (c ≡ b)) × IsNoWorse sense c a × IsNoWorse sense c b

better_is : (sense : Sense) (a b : ℤ) → IsBetterOf sense a b (better_cost sense a (Some b))
better_is Min a b = by_lt_z {P = IsBetterOf Min a b (int_min a b)} b a
    (λ lt. (inr (omega (arith, ints, clamps)), omega (arith, ints, clamps), omega (arith, ints, clamps)))
    (λ le. (inl (omega (arith, ints, clamps)), omega (arith, ints, clamps), omega (arith, ints, clamps)))
better_is Max a b = by_lt_z {P = IsBetterOf Max a b (int_max a b)} a b
    (λ lt. (inr (omega (arith, ints, clamps)), omega (arith, ints, clamps), omega (arith, ints, clamps)))
    (λ le. (inl (omega (arith, ints, clamps)), omega (arith, ints, clamps), omega (arith, ints, clamps)))

no_worse_through : (sense : Sense) (a b c : ℤ) → IsNoWorse sense a b → IsNoWorse sense b c → IsNoWorse sense a c
no_worse_through Min a b c h k = omega (arith, ints)
no_worse_through Max a b c h k = omega (arith, ints)

-- one more triple of the pair
more_given : (sense : Sense) (triples : List Triple) (i j : ℕ) (a : ℤ) (o : Option ℤ) → IsBestGiven sense triples i j o →
    IsBestGiven sense ((i, j, a) ∷ triples) i j (Some (better_cost sense a o))
more_given sense triples i j a None h = (
  contains_first (i, j, a) triples,
  λ d k. elim (first_or_later (i, j, a) triples (i, j, d) k) [
    | inl e ↦ subst (IsNoWorse sense a) (ap (λ (t : Triple). t.2) e) (no_worse_than_itself sense a)
    | inr l ↦ absurd (h d l)
  ],
)
more_given sense triples i j a (Some b) h =
    let c : ℤ = better_cost sense a (Some b) in
    let is = better_is sense a b in (
      elim is.0 [
        | inl e ↦ subst (λ z. Contains ((i, j, a) ∷ triples) (i, j, z)) (sym e) (contains_first (i, j, a) triples)
        | inr e ↦ subst (λ z. Contains ((i, j, a) ∷ triples) (i, j, z)) (sym e) (contains_later (i, j, a) triples (i, j, b) h.0)
      ],
      λ d k. elim (first_or_later (i, j, a) triples (i, j, d) k) [
        | inl e ↦ subst (IsNoWorse sense c) (ap (λ (t : Triple). t.2) e) is.1
        | inr l ↦ no_worse_through sense c b d is.2 (h.1 d l)
      ],
    )

-- one more triple of another pair
other_given : (sense : Sense) (t : Triple) (triples : List Triple) (i j : ℕ) (o : Option ℤ) → (((t.0 ≡ i) × (t.1 ≡ j)) → ⊥) → IsBestGiven sense triples i j o →
    IsBestGiven sense (t ∷ triples) i j o
other_given sense t triples i j None other h = λ c k. elim (first_or_later t triples (i, j, c) k) [
  | inl e ↦ other (ap (λ (u : Triple). u.0) e, ap (λ (u : Triple). u.1) e)
  | inr l ↦ h c l
]
other_given sense t triples i j (Some c) other h = (
  contains_later t triples (i, j, c) h.0,
  λ d k. elim (first_or_later t triples (i, j, d) k) [
    | inl e ↦ absurd (other (ap (λ (u : Triple). u.0) e, ap (λ (u : Triple). u.1) e))
    | inr l ↦ h.1 d l
  ],
)

pub best_given_is : (sense : Sense) (triples : List Triple) (i j : ℕ) → IsBestGiven sense triples i j (best_given sense triples i j)
best_given_is sense [] i j = λ c h. absurd (omega (arith, h.1))
best_given_is sense (t ∷ triples) i j = elim (same_pair t i j) [
  | inl s ↦
      let o : Option ℤ = best_given sense triples i j in
      let here : best_given sense (t ∷ triples) i j ≡ Some (better_cost sense t.2 o) = ap (λ b. cond b (Some (better_cost sense t.2 o)) o) s.0 in
      let there = more_given sense triples i j t.2 o (best_given_is sense triples i j) in
      let first = ap (λ p. (p, t.1, t.2)) s.1.0 in
      let second = ap (λ q. (i, q, t.2)) s.1.1 in
      let same : t ≡ (i, j, t.2) = first ∙ second in
      subst (IsBestGiven sense (t ∷ triples) i j) (sym here)
      (subst (λ u. IsBestGiven sense (u ∷ triples) i j (Some (better_cost sense t.2 o))) (sym same) there)
  | inr s ↦
      let o : Option ℤ = best_given sense triples i j in
      let skip : best_given sense (t ∷ triples) i j ≡ o = ap (λ b. cond b (Some (better_cost sense t.2 o)) o) s.0 in
      subst (IsBestGiven sense (t ∷ triples) i j) (sym skip) (other_given sense t triples i j o s.1 (best_given_is sense triples i j))
]
