-- One more object is relaxed, and all objects.
use Rattle.std.proofs.Common.{◌≡◌, ◌≢◌, ◌↔◌, ◌⊎◌, ℕ, ℤ, pos, ◌+◌, ◌+ℤ◌, ◌≤ℤ◌, ◌<ℤ◌, ◌<◌, Bool, true, false, IsTrue, List, length, arith, refl, sym, subst, ◌∙◌, inl, inr}
use lib.Signed.{lt_z}
use Rattle.std.proofs.lemmas.Int.{ints}
use Rattle.std.proofs.lemmas.Bool.{cases_lt}
use Rattle.std.proofs.lemmas.List.{get_or_past}
use Rattle.assign_core.proofs.NumberedLemmas.{low_or_same}
use Rattle.cost_lists.specs.declared.numbers.TheConstants.{UNLISTED}
use Rattle.hungarian.specs.inside.Plans.{at, int_at, IsRowOf}
use Rattle.hungarian.specs.inside.Trees.{IsRelaxed}
use Rattle.hungarian.specs.inside.Stored.{AreRelaxed}
use Rattle.hungarian.proofs.Growing.{none_or_some}

-- what a test that fails says
pub at_least : (b : Bool) (x y : ℤ) → IsTrue b ↔ (x <ℤ y) → b ≡ false → y ≤ℤ x
at_least b x y is f = from (lt_z x y) refl where
  from : (q : Bool) → lt_z x y ≡ q → y ≤ℤ x
  from true e = let h : x <ℤ y = grind (arith, ints) in let z = is.1 h in absurd cc
  from false e = grind (arith, ints)

pub lowered : (i : ℕ) (c w : ℤ) (rank : ℕ) (d : ℤ) (f : ℕ) (path d2 : ℤ) (f2 : ℕ) → (c <ℤ UNLISTED) × (rank ≡ 0) →
    path ≡ (w +ℤ c) → d2 ≡ path → f2 ≡ i → (f ≡ 0) ⊎ (path <ℤ d) → IsRelaxed i c w rank d f d2 f2
lowered i c w rank d f path d2 f2 goes sum cost person better = inr (record {
  listed = goes.0;
  unscanned = goes.1;
  cost = cost ∙ sum;
  person = person;
  better = λ h. elim better [ inl none ↦ absurd (omega arith) | inr less ↦ omega (arith, ints) ];
})

pub kept_better : (b : Bool) (i : ℕ) (c w : ℤ) (rank : ℕ) (d : ℤ) (f : ℕ) (path : ℤ) →
    IsTrue b ↔ ((f ≡ 0) ⊎ (path <ℤ d)) → b ≡ false → path ≡ (w +ℤ c) → IsRelaxed i c w rank d f d f
kept_better b i c w rank d f path is false_is sum = inl (record {
  cost = refl;
  person = refl;
  labelled = λ listed unscanned. elim
      (none_or_some f) [ inl none ↦ let z = is.1 (inl none) in absurd cc | inr some ↦ some ];
  least = λ listed unscanned. from (lt_z path d) refl;
}) where
  from : (q : Bool) → lt_z path d ≡ q → d ≤ℤ (w +ℤ c)
  from true e = let h : path <ℤ d = grind (arith, ints) in let z = is.1 (inr h) in absurd cc
  from false e = let h : d ≤ℤ path = grind (arith, ints) in omega (arith, ints)

pub kept_away : (b : Bool) (i : ℕ) (c w : ℤ) (rank : ℕ) (d : ℤ) (f : ℕ) → IsTrue b ↔ (c <ℤ UNLISTED) × (rank ≡ 0) →
    b ≡ false → IsRelaxed i c w rank d f d f
kept_away b i c w rank d f is false_is = inl (record {
  cost = refl;
  person = refl;
  labelled = λ listed unscanned. let z = is.1 (listed, unscanned) in absurd cc;
  least = λ listed unscanned. let z = is.1 (listed, unscanned) in absurd cc;
})

pub tests_sum : (r q x y : ℤ) → r ≡ x → q ≡ y → IsTrue (lt_z r q) ↔ (x <ℤ y)
tests_sum r q x y e g = ((λ h. grind (arith, ints)), (λ h. grind (arith, ints)))

module _ (i : ℕ) (w : ℤ) (row : List ℤ) (ranks : List ℕ) (d : List ℤ) (f : List ℕ) where
  -- the entries of the object before and after the step, and of the others
  carried : (k : ℕ) (a b d1 d2 : ℤ) (f0 f1 f2 : ℕ) → d2 ≡ d1 → f2 ≡ f1 → IsRelaxed i a w k b f0 d1 f1 →
      IsRelaxed i a w k b f0 d2 f2
  carried k a b d1 d2 f0 f1 f2 e g h = subst (λ y. IsRelaxed i a w k b f0 d2 y) (sym g)
      (subst (λ y. IsRelaxed i a w k b f0 y f1) (sym e) h)

  began : (k : ℕ) (a b d1 d2 : ℤ) (f0 f1 f2 : ℕ) → d1 ≡ b → f1 ≡ f0 → IsRelaxed i a w k d1 f1 d2 f2 →
      IsRelaxed i a w k b f0 d2 f2
  began k a b d1 d2 f0 f1 f2 e g h = subst (λ y. IsRelaxed i a w k b y d2 f2) g
      (subst (λ y. IsRelaxed i a w k y f1 d2 f2) e h)

  pub relaxed_more : (d1 d2 : List ℤ) (f1 f2 : List ℕ) (j : ℕ) →
      ((k : ℕ) → k < j → IsRelaxed i (int_at row k) w (at ranks k) (int_at d k) (at f k) (int_at d1 k) (at f1 k)) →
      int_at d1 j ≡ int_at d j → at f1 j ≡ at f j →
      IsRelaxed i (int_at row j) w (at ranks j) (int_at d1 j) (at f1 j) (int_at d2 j) (at f2 j) →
      ((k : ℕ) → k ≢ j → int_at d2 k ≡ int_at d1 k) → ((k : ℕ) → k ≢ j → at f2 k ≡ at f1 k) →
      (k : ℕ) → k < j + 1 → IsRelaxed i (int_at row k) w (at ranks k) (int_at d k) (at f k) (int_at d2 k) (at f2 k)
  relaxed_more d1 d2 f1 f2 j before same_cost same_person here costs persons k lt = elim (low_or_same k j lt) [
    | inl less ↦
        let ne : k ≢ j = omega arith in
        carried (at ranks k) (int_at row k) (int_at d k) (int_at d1 k) (int_at d2 k) (at f k) (at f1 k) (at f2 k)
        (costs k ne) (persons k ne) (before k less)
    | inr same ↦
        subst (λ q. IsRelaxed i (int_at row q) w (at ranks q) (int_at d q) (at f q) (int_at d2 q) (at f2 q)) (sym same)
        (began (at ranks j) (int_at row j) (int_at d j) (int_at d1 j) (int_at d2 j) (at f j) (at f1 j)
        (at f2 j) same_cost same_person here)
  ]

-- with the costs of a person in the row, each object is relaxed, also those past the row
pub relaxed_all : (c : ℕ → ℤ) (i : ℕ) (w : ℤ) (row : List ℤ) (ranks : List ℕ) (d : List ℤ) (f : List ℕ) (d2 : List ℤ)
    (f2 : List ℕ) →
    IsRowOf c row → ((k : ℕ) → c k <ℤ UNLISTED → k < length row) → length d ≡ length row → length f ≡ length row →
    length d2 ≡ length row → length f2 ≡ length row →
    AreRelaxed i w row ranks d f d2 f2 → (k : ℕ) →
    IsRelaxed i (c k) w (at ranks k) (int_at d k) (at f k) (int_at d2 k) (at f2 k)
relaxed_all c i w row ranks d f d2 f2 is within e1 e2 e3 e4 h k = elim (cases_lt k (length row)) [
  | inl less ↦ subst (λ y. IsRelaxed i y w (at ranks k) (int_at d k) (at f k) (int_at d2 k) (at f2 k))
      (is.each k less) (h k less)
  | inr past ↦ inl (record {
    cost = get_or_past d2 k (pos 0) (omega arith) ∙ sym (get_or_past d k (pos 0) (omega arith));
    person = get_or_past f2 k 0 (omega arith) ∙ sym (get_or_past f k 0 (omega arith));
    labelled = λ listed none. let z = within k listed in absurd (omega arith);
    least = λ listed none. let z = within k listed in absurd (omega arith);
  })
]
