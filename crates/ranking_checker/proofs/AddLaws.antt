-- Pairs that are added one after the other.
use Rattle.std.proofs.Common.{ℕ, ◌+◌, List, [], ◌∷◌, ◌++◌, arith, inl, inr, sym, subst}
use Rattle.std.specs.List.{Contains}
use Rattle.std.proofs.lemmas.List.Elements.{Contains-append_left, Contains-push, Contains-push_cases}
use Rattle.assign_core.proofs.NumberedLemmas.{low_or_same}
use Rattle.ranking_checker.specs.declared.pairs.Pair.{Pair}
use Rattle.ranking_checker.specs.inside.Adding.{Adds, AddsFrom, AreOfRows}

pub add_one : (Keep : Pair → Type 0) (p : Pair) (before : List Pair) → Adds Keep p before (before ++ p ∷ [])
add_one Keep p before = record {
  stays = λ q h. Contains-append_left before (p ∷ []) q h;
  came = λ q h. elim (Contains-push_cases before p q h) [ inl old ↦ inl old | inr e ↦ inr (sym e) ];
  has = λ _. Contains-push before p;
}

pub add_none : (Keep : Pair → Type 0) (p : Pair) (before : List Pair) → (Keep p → ⊥) → Adds Keep p before before
add_none Keep p before not = record { stays = λ q h. h; came = λ q h. inl h; has = λ keep. absurd (not keep) }

pub none_yet : (Keep : Pair → Type 0) (S : ℕ → Pair) (before : List Pair) → AddsFrom Keep S 0 before before
none_yet Keep S before = record { stays = λ q h. h; came = λ q h. inl h; has = λ k lt. absurd (omega arith) }

pub one_more : (Keep : Pair → Type 0) (S : ℕ → Pair) (count : ℕ) (before mid after : List Pair) → AddsFrom Keep S count before mid →
    Adds Keep (S count) mid after → AddsFrom Keep S (count + 1) before after
one_more Keep S count before mid after h a = record {
  stays = λ q c. a.stays q (h.stays q c);
  came = λ q c. elim (a.came q c) [
    | inl old ↦ elim (h.came q old) [ inl first ↦ inl first | inr w ↦ inr (w.0, (let lt = w.1 in omega arith), w.2) ]
    | inr e ↦ inr (count, omega arith, e)
  ];
  has = λ k lt keep. elim (low_or_same k count lt) [
    | inl less ↦ a.stays (S k) (h.has k less keep)
    | inr same ↦ subst (λ z. Contains after (S z)) (sym same) (a.has (subst (λ z. Keep (S z)) same keep))
  ];
}

pub no_rows : (Keep : Pair → Type 0) (S : ℕ → ℕ → Pair) (m : ℕ) → AreOfRows Keep S 0 m []
no_rows Keep S m = record { came = λ q c. absurd (omega (arith, c.1)); has = λ i j lt. absurd (omega arith) }

pub row_more : (Keep : Pair → Type 0) (S : ℕ → ℕ → Pair) (rows m : ℕ) (mid after : List Pair) → AreOfRows Keep S rows m mid →
    AddsFrom Keep (S rows) m mid after → AreOfRows Keep S (rows + 1) m after
row_more Keep S rows m mid after h a = record {
  came = λ q c. elim (a.came q c) [
    | inl old ↦ let w = h.came q old in (w.0, w.1, (let lt = w.2 in omega arith), w.3, w.4)
    | inr w ↦ (rows, w.0, omega arith, w.1, w.2)
  ];
  has = λ i j lt room keep. elim (low_or_same i rows lt) [
    | inl less ↦ a.stays (S i j) (h.has i j less room keep)
    | inr same ↦ subst (λ z. Contains after (S z j)) (sym same) (a.has j room (subst (λ z. Keep (S z j)) same keep))
  ];
}
