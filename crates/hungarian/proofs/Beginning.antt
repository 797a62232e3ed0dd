-- The tree of one person alone.
use Rattle.std.proofs.Common.{◌≡◌, ℕ, ℤ, pos, neg_ℤ, ◌+ℤ◌, ◌≤ℤ◌, ◌<ℤ◌, ◌<◌, ap, arith, sym, subst, inl, inr}
use Rattle.std.proofs.lemmas.Int.{ints}
use Rattle.cost_lists.specs.declared.numbers.TheConstants.{UNLISTED}
use Rattle.hungarian.specs.inside.Plans.{AreCostsOrMarks, IsPlan}
use Rattle.hungarian.specs.inside.Trees.{IsScanned, IsStep, IsCovered, IsLabelled, IsTree, IsRelaxed}

module _ (c : ℕ → ℕ → ℤ) (p : ℕ → ℤ) (o x : ℕ → ℕ) (n m s : ℕ) (d v : ℕ → ℤ) (f r : ℕ → ℕ) (d2 : ℕ → ℤ) (f2 : ℕ → ℕ)
    (costs : AreCostsOrMarks c) (plan : IsPlan c n m p o x) (some : 0 < s) (alone : x s ≡ 0)
    (none : (k : ℕ) → f k ≡ 0) (unranked : (k : ℕ) → r k ≡ 0) (here : v s ≡ pos 0)
    (relaxed : (k : ℕ) → IsRelaxed s (c s k) (pos 0) (r k) (d k) (f k) (d2 k) (f2 k)) where
  only_first : (q : ℕ) → IsScanned s x r q → q ≡ s
  only_first q (inl e) = e
  only_first q (inr h) = let z = unranked (x q) in absurd (omega arith)

  labelled_now : (k : ℕ) → 0 < f2 k → IsLabelled c x s d2 v f2 r k
  labelled_now k h = elim (relaxed k) [
    | inl kept ↦ let a = kept.person in let b = none k in absurd (omega arith)
    | inr low ↦
        let step : IsStep c d2 v s k = record
        { listed = low.listed; sum = let a = low.cost in let b = here in omega (arith, ints) } in
        record { scanned = inl low.person; step = subst (λ q. IsStep c d2 v q k) (sym low.person) step }
  ]

  covered_first : (k : ℕ) → c s k <ℤ UNLISTED → IsCovered c d2 v f2 s k
  covered_first k listed = elim (relaxed k) [
    | inl kept ↦ let a = kept.labelled listed (unranked k) in let b = none k in absurd (omega arith)
    | inr low ↦
        let a = low.person in let b = low.cost in let e = here in
        record { labelled = omega arith; least = omega (arith, ints) }
  ]

  waiting_now : (k : ℕ) → r k ≡ 0 → 0 < f2 k → neg_ℤ (pos 1000000000000) ≤ℤ (d2 k +ℤ p k)
  waiting_now k un h = elim (relaxed k) [
    | inl kept ↦ let a = kept.person in let b = none k in absurd (omega arith)
    | inr low ↦
        let a = low.cost in
        let low_cost = (costs s k low.listed).least in
        let price = (plan.priced k).least in omega (arith, ints)
  ]

  pub tree_begins : IsTree c p o x s 0 (neg_ℤ (pos 1000000000000)) d2 v f2 r
  tree_begins = record {
    some = some;
    alone = alone;
    start = here;
    nobody = unranked 0;
    labelled = labelled_now;
    covered = λ i k h listed. subst (λ q. IsCovered c d2 v f2 q k) (sym (only_first i h))
        (covered_first k (subst (λ q. c q k <ℤ UNLISTED) (only_first i h) listed));
    passed = λ k h. let z = unranked k in absurd (omega arith);
    waiting = waiting_now;
    own = λ i h. let z = unranked (x i) in absurd (omega arith);
    close = λ i q h g.
        let a : v i ≡ v s = ap v (only_first i h) in
        let b : v q ≡ v s = ap v (only_first q g) in omega (arith, ints);
  }
