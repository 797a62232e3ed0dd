-- Matchings: one with a pair more, one that is an assignment; and the order of tables of prices.
use Rattle.std.proofs.Common.{◌≡◌, ◌≢◌, ℕ, ℤ, ◌<◌, ◌≤◌, ◌⊎◌, zero, suc, List, [], ◌∷◌, Option, None, Some, IsSome}
use Rattle.std.proofs.Common.{length, get_or, nat_eq, false, refl, arith, ap, sym, subst, ◌∙◌, inl, inr}
use Rattle.std.specs.List.{AllZip}
use Rattle.std.proofs.lemmas.Bool.Decides.{eqb_tells}
use Rattle.std.proofs.lemmas.List.{get_or_default}
use Rattle.std.proofs.lemmas.Map.Keys.{IsDistinct-from_apart}
use Rattle.std.proofs.lemmas.Int.{ints}
use Rattle.assign_core.specs.Numbered.{IsNumber, numbered, renumbered}
use Rattle.assign_core.specs.Rows.{Listing, listed_in, IsListed}
use Rattle.assign_core.specs.Assignment.{IsAssignment}
use Rattle.assign_core.specs.Matching.{IsMatching, owner_of}
use Rattle.assign_core.specs.Prices.{IsBelow}
use Rattle.assign_core.proofs.NumberedLemmas.{length-renumbered, numbered-other, numbered-same}

-- what holds at each place holds of zipped lists
pub zip_from_places : {A B : Type 0} (R : A → B → Type 0) (xs : List A) (ys : List B) (d : A) (e : B) → length ys ≡ length xs →
    ((k : ℕ) → k < length xs → R (get_or xs k d) (get_or ys k e)) → AllZip R xs ys
zip_from_places R [] [] d e l h = tt
zip_from_places R [] (y ∷ ys) d e l h = absurd (omega arith)
zip_from_places R (x ∷ xs) [] d e l h = absurd (omega arith)
zip_from_places R (x ∷ xs) (y ∷ ys) d e l h =
    (h zero (omega arith), zip_from_places R xs ys d e (omega arith) (λ k lt. h (suc k) (omega arith)))

-- each person from 1 on owns the object that the list gives it
abbrev pub OwnAll : List (Option ℕ) → List ℕ → Type 0
OwnAll owners xs = (i : ℕ) → 0 < i → i ≤ length xs → owner_of owners (numbered xs i 0) ≡ Some i

own_apart : (owners : List (Option ℕ)) (xs : List ℕ) → OwnAll owners xs → (i j d : ℕ) → i < j → j < length xs → nat_eq (get_or xs i d) (get_or xs j d) ≡ false
own_apart owners xs own i j d lt within = elim (eqb_tells (get_or xs i d) (get_or xs j d)) [
  | inl e ↦
      let a : owner_of owners (get_or xs i 0) ≡ Some (suc i) = own (suc i) (omega arith) (omega arith) in
      let b : owner_of owners (get_or xs j 0) ≡ Some (suc j) = own (suc j) (omega arith) (omega arith) in
      let p : get_or xs i d ≡ get_or xs i 0 = get_or_default xs i d 0 (omega arith) in
      let q : get_or xs j d ≡ get_or xs j 0 = get_or_default xs j d 0 within in
      let same : get_or xs i 0 ≡ get_or xs j 0 = sym p ∙ e.1 ∙ q in
      let numbers : suc i ≡ suc j = cc (a, b, ap (owner_of owners) same) in
      absurd (omega arith)
  | inr e ↦ e.0
]

pub owned_assigned : (rows : List Listing) (owners : List (Option ℕ)) (xs : List ℕ) → IsMatching rows owners → length xs ≡ length rows →
    OwnAll owners xs → IsAssignment rows xs
owned_assigned rows owners xs m same own = record {
  listed = zip_from_places (λ row j. IsSome (listed_in row j)) rows xs [] 0 same
      (λ k lt. m.listed (suc k) (get_or xs k 0) (own (suc k) (omega arith) (omega arith)));
  apart = IsDistinct-from_apart nat_eq xs (own_apart owners xs own);
}

pub below_itself : (prices : List ℤ) → IsBelow prices prices
below_itself prices = record { long = refl; each = λ j. omega (arith, ints) }

pub below_through : (first second third : List ℤ) → IsBelow first second → IsBelow second third → IsBelow first third
below_through first second third a b = record {
  long = a.long ∙ b.long;
  each = λ j. let x = a.each j in let y = b.each j in omega (arith, ints);
}

-- who owns object k once person p has object j
pub owner_cases : (owners : List (Option ℕ)) (j k p i : ℕ) → IsNumber (length owners) j → owner_of (renumbered owners j (Some p)) k ≡ Some i →
    ((k ≡ j) × (p ≡ i)) ⊎ ((k ≢ j) × (owner_of owners k ≡ Some i))
owner_cases owners j k p i number e = elim (eqb_tells k j) [
  | inl t ↦
      let now : owner_of (renumbered owners j (Some p)) k ≡ Some p = rw t.1 (numbered-same owners j (Some p) None number.first number.last) in
      let same : p ≡ i = cc in
      inl (t.1, same)
  | inr t ↦ inr (t.1, sym (numbered-other owners j k (Some p) None t.1) ∙ e)
]

-- what holds of each owned pair, once person p has object j
pub owners_by : (P : ℕ → ℕ → Type 0) (owners : List (Option ℕ)) (j p : ℕ) → IsNumber (length owners) j → P p j →
    ((i k : ℕ) → k ≢ j → owner_of owners k ≡ Some i → P i k) →
    (i k : ℕ) → owner_of (renumbered owners j (Some p)) k ≡ Some i → P i k
owners_by P owners j p number here there i k e = elim (owner_cases owners j k p i number e) [
  | inl t ↦ subst (λ v. P v k) t.1 (subst (P p) (sym t.0) here)
  | inr t ↦ there i k t.0 t.1
]

-- a person who owns nothing is given an object that it lists
pub matching_more : (rows : List Listing) (owners : List (Option ℕ)) (j p : ℕ) → IsNumber (length owners) j →
    IsMatching rows owners → ((k : ℕ) → owner_of owners k ≡ Some p → ⊥) →
    IsListed rows p j → IsMatching rows (renumbered owners j (Some p))
matching_more rows owners j p number m alone listed = record {
  long = length-renumbered owners j (Some p) ∙ m.long;
  listed = owners_by (IsListed rows) owners j p number listed (λ i k other e. m.listed i k e);
  apart = λ i k t e f. elim (owner_cases owners j k p i number e) [
    | inl x ↦ elim (owner_cases owners j t p i number f) [
      | inl y ↦ x.0 ∙ sym y.0
      | inr y ↦ absurd (alone t (y.1 ∙ ap Some (sym x.1)))
    ]
    | inr x ↦ elim (owner_cases owners j t p i number f) [
      | inl y ↦ absurd (alone k (x.1 ∙ ap Some (sym y.1)))
      | inr y ↦ m.apart i k t x.1 y.1
    ]
  ];
}
