-- What a chosen rival shows of a pair.
use Rattle.std.proofs.Common.{◌≡◌, ℕ, ℤ, pos, ◌≤ℤ◌, ◌<◌, List, Bool, true, false, length, inl, inr, refl, sym, arith, subst}
use Rattle.std.specs.Prelude.{slice_index_or}
use Rattle.std.specs.Int.Signed.{≤ℤ_refl}
use Rattle.std.proofs.lemmas.Int.{ints}
use Rattle.std.proofs.lemmas.Bool.{cases_lt}
use Rattle.count_checker.specs.declared.lists.CountLists.{CountLists}
use Rattle.count_checker.specs.CountLists.{pair_at}
use Rattle.count_checker.specs.CountPrices.{rest_of}
use Rattle.count_checker.specs.CountFaults.{AreRivalsAt, IsChosen, IsDouble, IsPairRight}
use Rattle.count_checker.specs.inside.Plain.{IsPairPlain}
use Rattle.count_checker.proofs.RivalLaws.{itself, shared, turned_rival}

across : (a b : ℤ) → a ≤ℤ pos 0 → pos 0 ≤ℤ b → a ≤ℤ b
across a b x y = grind (arith, ints, x, y)

module _ (l : CountLists) (plan : List Bool) (single : (k : ℕ) → k < length l.rows.now → IsDouble l plan k → ⊥) where
  one_only : (k q h : ℕ) → q < length l.rows.now → h < length l.rows.now → IsChosen plan q → IsChosen plan h → AreRivalsAt l q k → AreRivalsAt l h k → q ≡ h
  one_only k q h a b x y e f =
      let g = l.groups.now in
      let to_q = turned_rival g (pair_at l q) (pair_at l k) e in
      let to_h = turned_rival g (pair_at l h) (pair_at l k) f in
      elim (cases_lt q h) [
        | inl lt ↦ absurd (single h b (record { taken = y; before = q; less = lt; taken_before = x; rivals = shared g (pair_at l k) (pair_at l q) (pair_at l h) to_q to_h }))
        | inr ge ↦ elim (cases_lt h q) [
          | inl lt ↦ absurd (single q a (record { taken = x; before = h; less = lt; taken_before = y; rivals = shared g (pair_at l k) (pair_at l h) (pair_at l q) to_h to_q }))
          | inr le ↦ omega arith
        ]
      ]

  pub right_by_rival : (r v : List ℤ) (k h : ℕ) → h < length l.rows.now → IsChosen plan h → AreRivalsAt l h k → (IsChosen plan k → rest_of l.sense r v (pair_at l k) ≤ℤ pos 0) →
      rest_of l.sense r v (pair_at l h) ≤ℤ rest_of l.sense r v (pair_at l k) → IsPairRight l plan r v k
  right_by_rival r v k h lt taken rivals most less = record {
    chosen_most = most;
    rivals_less = λ q below x e. subst (λ i. rest_of l.sense r v (pair_at l i) ≤ℤ rest_of l.sense r v (pair_at l k)) (sym (one_only k q h below lt x taken e rivals)) less;
    left = inr (record { rival = h; below = lt; taken = taken; rivals = rivals });
  }

  right_by_choice : (r v : List ℤ) → ((q : ℕ) → q < length l.rows.now → IsPairPlain l plan r v q) → (k : ℕ) → k < length l.rows.now →
      (b : Bool) → slice_index_or plan k false ≡ b → IsPairRight l plan r v k
  right_by_choice r v plain k below true taken =
      right_by_rival r v k k below taken (itself l.groups.now (pair_at l k)) (plain k below).chosen_most (≤ℤ_refl (rest_of l.sense r v (pair_at l k)))
  right_by_choice r v plain k below false left_out = record {
    chosen_most = λ taken. absurd (cc);
    rivals_less = λ q inside x _. across (rest_of l.sense r v (pair_at l q)) (rest_of l.sense r v (pair_at l k)) ((plain q inside).chosen_most x) ((plain k below).open_least left_out);
    left = inl ((plain k below).open_least left_out);
  }

  -- all are right where each pair is, whatever its row takes
  pub right_if_plain : (r v : List ℤ) → ((q : ℕ) → q < length l.rows.now → IsPairPlain l plan r v q) → (k : ℕ) → k < length l.rows.now → IsPairRight l plan r v k
  right_if_plain r v plain k below = right_by_choice r v plain k below (slice_index_or plan k false) refl
