-- A rising list gets one more number, if it is chosen.
use Rattle.std.proofs.Common.{◌≡◌, ℕ, ◌+◌, ◌<◌, ◌↔◌, List, [], ◌∷◌, ◌++◌, Bool, true, false, IsTrue, length, get_or, arith, refl, sym, subst, inl, inr}
use Rattle.std.specs.List.{Contains}
use Rattle.std.specs.List.Sorted.{IsStrictlyIncreasing}
use Rattle.std.proofs.lemmas.Bool.{cases_lt}
use Rattle.std.proofs.lemmas.List.{get_or_append_left, get_or_push, length_push}
use Rattle.std.proofs.lemmas.List.Elements.{Contains-get_or, Contains-append_left, Contains-push, Contains-push_cases}
use Rattle.assign_core.proofs.NumberedLemmas.{low_or_same}

pushed_rise : (xs : List ℕ) (j : ℕ) → IsStrictlyIncreasing xs → ((k : ℕ) → Contains xs k → k < j) →
    IsStrictlyIncreasing (xs ++ j ∷ [])
pushed_rise xs j rise below k lt =
    let long = length_push xs j in
    let a = get_or_append_left xs (j ∷ []) 0 k (omega arith) in
    elim (cases_lt (k + 1) (length xs)) [
      | inl less ↦
          let b = get_or_append_left xs (j ∷ []) 0 (k + 1) less in
          let h = rise k less in omega arith
      | inr past ↦
          let b = get_or_push xs j 0 (k + 1) (omega arith) in
          let h = below (get_or xs k 0) (Contains-get_or xs k 0 (omega arith)) in omega arith
    ]

-- the numbers below j for which P holds
pub record AreListed (P : ℕ → Type 0) (j : ℕ) (xs : List ℕ) : Type 0 where
  pub rise : IsStrictlyIncreasing xs
  pub each : (k : ℕ) → Contains xs k ↔ (k < j) × P k

more : (P : ℕ → Type 0) (j : ℕ) (xs : List ℕ) → AreListed P j xs → P j → AreListed P (j + 1) (xs ++ j ∷ [])
more P j xs l p = record {
  rise = pushed_rise xs j l.rise (λ k h. ((l.each k).0 h).0);
  each = λ k. (
    (λ h. elim (Contains-push_cases xs j k h) [
      | inl old ↦ let a = (l.each k).0 old in let less = a.0 in (omega arith, a.1)
      | inr same ↦ (omega arith, subst P same p)
    ]),
    (λ h. elim (low_or_same k j h.0) [
      | inl less ↦ Contains-append_left xs (j ∷ []) k ((l.each k).1 (less, h.1))
      | inr same ↦ subst (Contains (xs ++ j ∷ [])) (sym same) (Contains-push xs j)
    ]),
  );
}

skip : (P : ℕ → Type 0) (j : ℕ) (xs : List ℕ) → AreListed P j xs → ¬ P j → AreListed P (j + 1) xs
skip P j xs l away = record {
  rise = l.rise;
  each = λ k. (
    (λ h. let a = (l.each k).0 h in let less = a.0 in (omega arith, a.1)),
    (λ h. elim (low_or_same k j h.0) [
      | inl less ↦ (l.each k).1 (less, h.1)
      | inr same ↦ absurd (away (subst P same h.1))
    ]),
  );
}

pub listed_more : (P : ℕ → Type 0) (j : ℕ) (xs ys : List ℕ) (b : Bool) → IsTrue b ↔ P j → AreListed P j xs →
    (b ≡ true → ys ≡ xs ++ j ∷ []) → (b ≡ false → ys ≡ xs) → AreListed P (j + 1) ys
listed_more P j xs ys true is l pushed stays = subst (AreListed P (j + 1)) (sym (pushed refl))
    (more P j xs l (is.0 refl))
listed_more P j xs ys false is l pushed stays = subst (AreListed P (j + 1)) (sym (stays refl))
    (skip P j xs l (λ p. let h = is.1 p in absurd cc))

pub listed_none : (P : ℕ → Type 0) → AreListed P 0 []
listed_none P = record {
  rise = λ k lt. absurd (omega arith);
  each = λ k. ((λ h. let lt = h.1 in absurd (omega arith)), (λ h. let lt = h.0 in absurd (omega arith)));
}

pub listed_upto : (P : ℕ → Type 0) (j n : ℕ) (xs : List ℕ) → AreListed P j xs → j ≡ n → AreListed P n xs
listed_upto P j n xs l e = subst (λ y. AreListed P y xs) e l
