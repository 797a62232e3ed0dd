-- The nearest of the objects so far.
use Rattle.std.proofs.Common.{◌≡◌, ℕ, ℤ, ◌+◌, ◌+ℤ◌, ◌≤ℤ◌, ◌<◌, ◌≤◌, ◌↔◌, List, Bool, true, false, IsTrue, length, ap, arith, refl, sym, subst, inl, inr}
use Rattle.std.proofs.lemmas.Int.{ints}
use Rattle.std.proofs.lemmas.Bool.{cases_lt}
use Rattle.std.proofs.lemmas.List.{get_or_past}
use Rattle.assign_core.proofs.NumberedLemmas.{low_or_same}
use Rattle.hungarian.specs.inside.Plans.{at, int_at}
use Rattle.hungarian.specs.inside.Trees.{IsNearer, IsNearest, IsWaiting}
use Rattle.hungarian.proofs.Growing.{none_or_some}

-- the best of the objects before i that wait; 0 if none waits
pub record IsBestOf (p d : ℕ → ℤ) (f r : ℕ → ℕ) (i best : ℕ) : Type 0 where
  pub none : best ≡ 0 → (k : ℕ) → k < i → ¬ IsWaiting f r k
  pub waits : 0 < best → IsWaiting f r best
  pub least : (k : ℕ) → k < i → IsWaiting f r k → (d best +ℤ p best) ≤ℤ (d k +ℤ p k)

pub best_none : (p d : ℕ → ℤ) (f r : ℕ → ℕ) → IsBestOf p d f r 0 0
best_none p d f r = record {
  none = λ e k lt w. omega arith;
  waits = λ h. absurd (omega arith);
  least = λ k lt w. absurd (omega arith);
}

module _ (p d : ℕ → ℤ) (f r : ℕ → ℕ) (nobody : f 0 ≡ 0) (i best : ℕ) (was : IsBestOf p d f r i best) where
  not_zero : (k : ℕ) → IsWaiting f r k → 0 < k
  not_zero k w = elim (none_or_some k) [
    | inl none ↦ let a = w.labelled in let z : f k ≡ f 0 = ap f none in absurd (omega arith)
    | inr some ↦ some
  ]

  stays : ¬ IsWaiting f r i → IsBestOf p d f r (i + 1) best
  stays apart = record {
    none = λ e k lt w. elim (low_or_same k i lt) [
      | inl less ↦ was.none e k less w
      | inr same ↦ apart (subst (IsWaiting f r) same w)
    ];
    waits = was.waits;
    least = λ k lt w. elim (low_or_same k i lt) [
      | inl less ↦ was.least k less w
      | inr same ↦ absurd (apart (subst (IsWaiting f r) same w))
    ];
  }

  takes : (z : ℕ) → IsWaiting f r i → IsNearer p d best i z → IsBestOf p d f r (i + 1) z
  takes z here near = record {
    none = λ e. absurd (elim near.one [
      | inl old ↦ let a = old.0 in let b = old.1 in omega arith
      | inr new ↦ let a = not_zero i here in omega arith
    ]);
    waits = λ h. elim near.one [
      | inl old ↦ subst (IsWaiting f r) (sym old.0) (was.waits old.1)
      | inr new ↦ subst (IsWaiting f r) (sym new) here
    ];
    least = λ k lt w. elim (low_or_same k i lt) [
      | inl less ↦ elim (none_or_some best) [
        | inl none ↦ absurd (was.none none k less w)
        | inr some ↦ let a = near.first some in let b = was.least k less w in omega (arith, ints)
      ]
      | inr same ↦
          let a = near.second in
          let b : d k ≡ d i = ap d same in
          let e : p k ≡ p i = ap p same in omega (arith, ints)
    ];
  }

  pub best_more : (b : Bool) (z : ℕ) → IsTrue b ↔ (0 < f i) × (r i ≡ 0) → (b ≡ false → z ≡ best) →
      (b ≡ true → IsNearer p d best i z) → IsBestOf p d f r (i + 1) z
  best_more true z is stay take = let w = is.0 refl in takes z (record { labelled = w.0; unscanned = w.1 }) (take refl)
  best_more false z is stay take = subst (IsBestOf p d f r (i + 1)) (sym (stay refl))
      (stays (λ w. let e : false ≡ true = is.1 (w.labelled, w.unscanned) in absurd cc))

-- past the end no object waits
pub best_all : (prices costs : List ℤ) (f r : List ℕ) (i best : ℕ) → length f ≤ i →
    IsBestOf (int_at prices) (int_at costs) (at f) (at r) i best →
    (best ≡ 0 → (k : ℕ) → ¬ IsWaiting (at f) (at r) k) ×
    (0 < best → IsNearest (int_at prices) (int_at costs) (at f) (at r) best)
best_all prices costs f r i best long was = (
  (λ e k w. was.none e k (below k w) w),
  (λ h. record { waits = was.waits h; least = λ k w. was.least k (below k w) w }),
) where
  below : (k : ℕ) → IsWaiting (at f) (at r) k → k < i
  below k w = elim (cases_lt k (length f)) [
    | inl less ↦ omega arith
    | inr past ↦ let z = get_or_past f k 0 past in let a = w.labelled in absurd (omega arith)
  ]
