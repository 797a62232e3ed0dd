-- Rows of listed pairs: what they list, and their limits.
use Rattle.std.proofs.Common.{◌≡◌, ℕ, ℤ, ◌<◌, ◌≤◌, ◌+◌, zero, suc, List, [], Option, None, Some, length, get_or}
use Rattle.std.proofs.Common.{refl, ap, arith, sym, subst, ◌∙◌, inl, inr, ◌⊎◌}
use Rattle.std.specs.List.{All, Contains}
use Rattle.std.proofs.lemmas.Bool.{cases_lt}
use Rattle.std.proofs.lemmas.Bool.Decides.{eqb_tells}
use Rattle.std.proofs.lemmas.List.{get_or_past}
use Rattle.std.proofs.lemmas.List.Elements.{All-nil, All-cons, All-contains}
use Rattle.assign_core.specs.declared.sense.Sense.{Sense}
use Rattle.assign_core.specs.Numbered.{IsNumber}
use Rattle.assign_core.specs.Rows.{Listing, IsWithin, listed_in, row_of}
use Rattle.assign_core.specs.Sparse.{Triple, IsTripleAmong}
use Rattle.assign_core.proofs.Listed.{listed_here, listed_later}
use Rattle.cost_lists.specs.Given.{IsBestGiven, best_given, row_given, rows_given, with_cost}
use Rattle.cost_lists.proofs.BestGiven.{best_given_is}

listed_with : (j : ℕ) (o : Option ℤ) (row : Listing) (k : ℕ) → j ≡ k → listed_in row k ≡ None → listed_in (with_cost j o row) k ≡ o
listed_with j None row k e none = none
listed_with j (Some c) row k e none = elim (eqb_tells j k) [ inl t ↦ listed_here (j, c) row k t.0 | inr t ↦ absurd (t.1 e) ]

listed_beside : (j : ℕ) (o : Option ℤ) (row : Listing) (k : ℕ) → (j ≡ k → ⊥) → listed_in (with_cost j o row) k ≡ listed_in row k
listed_beside j None row k other = refl
listed_beside j (Some c) row k other = elim (eqb_tells j k) [ inl t ↦ absurd (other t.1) | inr t ↦ listed_later (j, c) row k t.0 ]

-- each of the triples is of one of n persons and one of m objects
abbrev pub AreAmong : ℕ → ℕ → List Triple → Type 0
AreAmong n m triples = (i j : ℕ) (c : ℤ) → Contains triples (i, j, c) → IsNumber n i × IsNumber m j

module _ (sense : Sense) (triples : List Triple) where
  -- no object outside those that are tried is listed
  none_outside : (i j k q : ℕ) → (q < j) ⊎ (j + k ≤ q) → listed_in (row_given sense triples i j k) q ≡ None
  none_outside i j zero q out = refl
  none_outside i j (suc k) q out =
      let other : j ≡ q → ⊥ = λ e. elim out [ inl low ↦ omega arith | inr high ↦ omega arith ] in
      let later : (q < j + 1) ⊎ (j + 1 + k ≤ q) = elim out [ inl low ↦ inl (omega arith) | inr high ↦ inr (omega arith) ] in
      listed_beside j (best_given sense triples i j) (row_given sense triples i (j + 1) k) q other ∙ none_outside i (j + 1) k q later

  pub listed_given : (i j k q : ℕ) → j ≤ q → q < j + k → listed_in (row_given sense triples i j k) q ≡ best_given sense triples i q
  listed_given i j zero q low high = absurd (omega arith)
  listed_given i j (suc k) q low high = elim (eqb_tells j q) [
    | inl t ↦
        listed_with j (best_given sense triples i j) (row_given sense triples i (j + 1) k) q t.1 (none_outside i (j + 1) k q (inl (let e = t.1 in omega arith)))
        ∙ ap (best_given sense triples i) t.1
    | inr t ↦
        listed_beside j (best_given sense triples i j) (row_given sense triples i (j + 1) k) q t.1
        ∙ listed_given i (j + 1) k q (let e = t.1 in omega arith) (omega arith)
  ]

  pub length-rows_given : (m i n : ℕ) → length (rows_given sense triples m i n) ≡ n
  length-rows_given m i zero = refl
  length-rows_given m i (suc n) = ap suc (length-rows_given m (i + 1) n)

  pub rows_given-index : (m i n k : ℕ) → k < n → get_or (rows_given sense triples m i n) k [] ≡ row_given sense triples (i + k) 1 m
  rows_given-index m i zero k lt = absurd (omega arith)
  rows_given-index m i (suc n) zero lt = ap (λ p. row_given sense triples p 1 m) (omega arith)
  rows_given-index m i (suc n) (suc k) lt = rows_given-index m (i + 1) n k (omega arith) ∙ ap (λ p. row_given sense triples p 1 m) (omega arith)

  -- a pair that is given is among the triples
  given_among : (i j : ℕ) (o : Option ℤ) (c : ℤ) → IsBestGiven sense triples i j o → o ≡ Some c → Contains triples (i, j, c)
  given_among i j o c is e = let here : IsBestGiven sense triples i j (Some c) = subst (IsBestGiven sense triples i j) e is in here.0

  none_or_some : (o : Option ℤ) → ((c : ℤ) → o ≡ Some c → ⊥) → o ≡ None
  none_or_some None h = refl
  none_or_some (Some c) h = absurd (h c refl)

  module _ (n m : ℕ) (among : AreAmong n m triples) where
    none_given : (i j : ℕ) → (IsNumber n i → IsNumber m j → ⊥) → best_given sense triples i j ≡ None
    none_given i j out = none_or_some (best_given sense triples i j) (λ c e. let t =
        among i j c (given_among i j (best_given sense triples i j) c (best_given_is sense triples i j) e) in out t.0 t.1)

    in_row : (i j : ℕ) → listed_in (row_given sense triples i 1 m) j ≡ best_given sense triples i j
    in_row i j = elim (cases_lt j 1) [
      | inl low ↦ none_outside i 1 m j (inl low) ∙ sym (none_given i j (λ p o. let a = o.first in omega arith))
      | inr some ↦ elim (cases_lt m j) [
        | inl high ↦ none_outside i 1 m j (inr (omega arith)) ∙ sym (none_given i j (λ p o. let a = o.last in omega arith))
        | inr last ↦ listed_given i 1 m j some (omega arith)
      ]
    ]

    -- the rows list just the given pairs, each at its best cost
    pub pairs_listed : (i j : ℕ) → listed_in (row_of (rows_given sense triples m 1 n) i) j ≡ best_given sense triples i j
    pairs_listed zero j = sym (none_given zero j (λ p o. let a = p.first in omega arith))
    pairs_listed (suc k) j = elim (cases_lt k n) [
      | inl lt ↦
          let e : 1 + k ≡ suc k = omega arith in
          ap (λ r. listed_in r j) (rows_given-index m 1 n k lt ∙ ap (λ p. row_given sense triples p 1 m) e) ∙ in_row (suc k) j
      | inr past ↦
          let long = length-rows_given m 1 n in
          ap (λ r. listed_in r j) (get_or_past (rows_given sense triples m 1 n) k [] (omega arith)) ∙
          sym (none_given (suc k) j (λ p o. let a = p.last in omega arith))
    ]

  pub rows_list : (n m : ℕ) → All (IsTripleAmong n m) triples → (i j : ℕ) → listed_in (row_of (rows_given sense triples m 1 n) i) j ≡ best_given sense triples i j
  rows_list n m each = pairs_listed n m (λ i j c h. let t = All-contains (IsTripleAmong n m) triples (i, j, c) each h in (t.person, t.object))

  all_with : (P : ℕ × ℤ → Type 0) (j : ℕ) (o : Option ℤ) (row : Listing) → ((c : ℤ) → o ≡ Some c → P (j, c)) → All P row → All P (with_cost j o row)
  all_with P j None row here rest = rest
  all_with P j (Some c) row here rest = All-cons P (j, c) row (here c refl) rest

  -- what holds of each object with a cost among the triples holds of those that the rows list
  module _ (P : ℕ × ℤ → Type 0) (of : (i j : ℕ) (c : ℤ) → Contains triples (i, j, c) → P (j, c)) where
    row_each : (i j k : ℕ) → All P (row_given sense triples i j k)
    row_each i j zero = All-nil P
    row_each i j (suc k) =
        all_with P j (best_given sense triples i j) (row_given sense triples i (j + 1) k)
        (λ c e. of i j c (given_among i j (best_given sense triples i j) c (best_given_is sense triples i j) e)) (row_each i (j + 1) k)

    pub rows_each : (m i k : ℕ) → All (All P) (rows_given sense triples m i k)
    rows_each m i zero = All-nil (All P)
    rows_each m i (suc k) = All-cons (All P) (row_given sense triples i 1 m) (rows_given sense triples m
        (i + 1) k) (row_each i 1 m) (rows_each m (i + 1) k)

  pub rows_within : (n m : ℕ) → AreAmong n m triples → All (IsWithin m) (rows_given sense triples m 1 n)
  rows_within n m among = rows_each (λ e. IsNumber m e.0) (λ i j c h. (among i j c h).1) m 1 n
