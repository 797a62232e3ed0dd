-- Places of which one changes, and places of persons.
use Rattle.std.proofs.Common.{◌≡◌, ℕ, ℤ, ◌+◌, ◌<◌, ◌≤◌, List, [], ◌∷◌, ◌++◌, length, get_or, set, arith, ap, sym, ◌∙◌, refl, subst, inl, inr, IfSome}
use Rattle.std.proofs.lemmas.Bool.{cases_lt}
use Rattle.std.proofs.lemmas.List.{get_or-set_other, get_or-set_same, get_or_push, get_or_append_left, length-append}
use Rattle.std.proofs.lemmas.Bool.Decides.{eqb_tells}
use Rattle.scaled_values.specs.Scaled.{ScaledProblem}
use Rattle.bidder.specs.Offers.{benefits_at}
use Rattle.candidates.specs.Candidates.{AreCandidates}
use Rattle.rounds.specs.declared.offers.Place.{Place}
use Rattle.rounds.specs.inside.Places.{ArePlaced}

-- what holds of the first places holds of one more
pub more_set : {X : Type 0} (P : ℕ → X → Type 0) (xs : List X) (i : ℕ) (x : X) → i < length xs →
    ((k : ℕ) (d : X) → k < i → P k (get_or xs k d)) → P i x →
    (k : ℕ) (d : X) → k < i + 1 → P k (get_or (set xs i x) k d)
more_set P xs i x at h is k d lt =
    elim (eqb_tells k i) [
      | inl t ↦
          let same = get_or-set_same xs i x d at in
          subst (λ j. P j (get_or (set xs i x) j d)) (sym t.1) (subst (P i) (sym same) is)
      | inr t ↦
          let same = get_or-set_other xs i k x d t.1 in
          let other = t.1 in
          subst (P k) (sym same) (h k d (omega (arith, lt)))
    ]

-- the same place and person under other names
pub placed_as : (s : ScaledProblem) (q : List ℤ) (persons : List ℕ) (x y : Place) (i j e : ℕ) → x ≡ y → i ≡ j →
    IfSome x.list (AreCandidates (benefits_at s (get_or persons i e)) q) →
    IfSome y.list (AreCandidates (benefits_at s (get_or persons j e)) q)
placed_as s q persons x y i j e same next is =
    subst (λ p. IfSome p.list (AreCandidates (benefits_at s (get_or persons j e)) q)) same
    (subst (λ k. IfSome x.list (AreCandidates (benefits_at s (get_or persons k e)) q)) next is)

-- a piece of the places
pub placed_piece : (s : ScaledProblem) (q : List ℤ) (persons : List ℕ) (places part : List Place) (start : ℕ) →
    start + length part ≤ length places →
    ((k : ℕ) (d : Place) → k < length part → get_or part k d ≡ get_or places (start + k) d) →
    ArePlaced s q persons 0 places → ArePlaced s q persons start part
placed_piece s q persons places part start within same placed = λ k d e lt.
    placed_as s q persons (get_or places (start + k) d) (get_or part k d) (0 + (start + k)) (start + k) e (sym (same k d lt))
    (omega arith) (placed (start + k) d e (omega (arith, lt)))

-- one more place
pub placed_more : (s : ScaledProblem) (q : List ℤ) (persons : List ℕ) (places : List Place) (i : ℕ) (x : Place) →
    length places ≡ i → ArePlaced s q persons 0 places →
    ((e : ℕ) → IfSome x.list (AreCandidates (benefits_at s (get_or persons i e)) q)) →
    ArePlaced s q persons 0 (places ++ x ∷ [])
placed_more s q persons places i x long placed is = λ k d e lt.
    elim (cases_lt k i) [
      | inl low ↦
          let within : k < length places = omega (arith, low) in
          placed_as s q persons (get_or places k d) (get_or (places ++ x ∷ []) k d) (0 + k) (0 + k) e
          (sym (get_or_append_left places (x ∷ []) d k within)) refl (placed k d e within)
      | inr high ↦
          let whole = length-append places (x ∷ []) in
          let last : i ≡ k = omega (arith, high, lt) in
          let at : i ≡ 0 + k = omega arith in
          let same = get_or_push places x d i long in
          placed_as s q persons x (get_or (places ++ x ∷ []) k d) i (0 + k) e
          (sym same ∙ ap (λ j. get_or (places ++ x ∷ []) j d) last) at (is e)
    ]
