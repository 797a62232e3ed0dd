-- What a row lists, and lists of listed objects.
use Rattle.std.proofs.Common.{◌≡◌, ℕ, ℤ, pos, ◌<◌, zero, suc, List, [], ◌∷◌, Some, IsSome, unwrap_or, length}
use Rattle.std.proofs.Common.{get_or, nat_eq, refl, rules, arith, sym, subst, ◌∙◌, inl, inr, true, false}
use Rattle.std.specs.List.{All, AllZip}
use Rattle.std.proofs.lemmas.List.Elements.{All-head, All-tail}
use Rattle.std.proofs.lemmas.Slice.Zip.{AllZip-long}
use Rattle.std.proofs.lemmas.Bool.{cond-true, cond-false, cases_lt, eq-eqb}
use Rattle.std.proofs.lemmas.List.{get_or_past}
use Rattle.std.proofs.lemmas.Bool.Decides.{eqb_tells}
use Rattle.assign_core.specs.Numbered.{IsNumber}
use Rattle.assign_core.specs.Rows.{Listing, listed_in, listed_or_zero, IsListed, IsRising, IsWithin, IsProblem}
use Rattle.assign_core.specs.Assignment.{AreListed}
use Rattle.assign_core.proofs.Distinct.{InRange}

pub listed_here : (e : ℕ × ℤ) (row : Listing) (j : ℕ) → nat_eq e.0 j ≡ true → listed_in (e ∷ row) j ≡ Some e.1
listed_here e row j h = cond-true (nat_eq e.0 j) (Some e.1) (listed_in row j) h

pub listed_later : (e : ℕ × ℤ) (row : Listing) (j : ℕ) → nat_eq e.0 j ≡ false → listed_in (e ∷ row) j ≡ listed_in row j
listed_later e row j h = cond-false (nat_eq e.0 j) (Some e.1) (listed_in row j) h

-- what holds of each entry of a row holds of the entry of a listed object
pub all_listed : (P : ℕ × ℤ → Type 0) (row : Listing) (j : ℕ) → All P row → IsSome (listed_in row j) → P (j, listed_or_zero row j)
all_listed P [] j h s = absurd (search rules)
all_listed P (e ∷ row) j h s = elim (eqb_tells e.0 j) [
  | inl t ↦ rw (listed_here e row j t.0) (subst (λ k. P (k, e.1)) t.1 (All-head P e row h))
  | inr t ↦
      let skip = listed_later e row j t.0 in
      rw skip (all_listed P row j (All-tail P e row h) (rw skip at s))
]

-- zipped lists are as long as each other
pub length_zip : {A B : Type 0} (R : A → B → Type 0) (xs : List A) (ys : List B) → AllZip R xs ys → length xs ≡ length ys
length_zip R xs ys h = sym (AllZip-long R xs ys h)

-- a listed object is one of 1 to n
pub object_within : (n : ℕ) (row : Listing) (j : ℕ) → IsWithin n row → IsSome (listed_in row j) → IsNumber n j
object_within n row j w s = all_listed (λ e. IsNumber n e.0) row j w s

-- and so are the listed objects of several rows
pub objects_within : (n : ℕ) (rows : List Listing) (xs : List ℕ) → All (IsWithin n) rows → AreListed rows xs → InRange n xs
objects_within n [] [] w h = tt
objects_within n [] (x ∷ xs) w h = absurd h
objects_within n (row ∷ rows) [] w h = absurd h
objects_within n (row ∷ rows) (x ∷ xs) w h =
    (object_within n row x (All-head (IsWithin n) row rows w) h.0, objects_within n rows xs (All-tail (IsWithin n) row rows w) h.1)

-- what a row gives for its first object
pub listed_first : (e : ℕ × ℤ) (row : Listing) → listed_in (e ∷ row) e.0 ≡ Some e.1
listed_first e row = listed_here e row e.0 (eq-eqb e.0 e.0 refl)

-- no object is listed in a row without entries
pub none_listed : (j : ℕ) → IsSome (listed_in [] j) → ⊥
none_listed j s = absurd (search rules)

-- what holds of each entry holds of an object with what it is listed with
pub entry_found : (P : ℕ × ℤ → Type 0) (row : Listing) (j : ℕ) (a : ℤ) → All P row → listed_in row j ≡ Some a → P (j, a)
entry_found P row j a h s = subst (λ o. P (j, unwrap_or o (pos 0))) s (all_listed P row j h (subst IsSome (sym s) refl))

-- the place at which a row lists an object
pub record IsPlace (row : Listing) (j : ℕ) : Type 0 where
  pub place : ℕ
  pub below : place < length row
  pub object : (d : ℕ × ℤ) → (get_or row place d).0 ≡ j

-- a listed object stands in the row
pub place_of : (row : Listing) (j : ℕ) → IsSome (listed_in row j) → IsPlace row j
place_of [] j s = absurd (none_listed j s)
place_of (e ∷ row) j s = elim (eqb_tells e.0 j) [
  | inl t ↦ record { place = 0; below = omega arith; object = λ d. t.1 }
  | inr t ↦
      let p = place_of row j (rw (listed_later e row j t.0) at s) in
      record { place = suc p.place; below = let b = p.below in omega arith; object = p.object }
]

-- an object that stands in the row is listed
pub entry_listed : (row : Listing) (k : ℕ) (d : ℕ × ℤ) → k < length row → IsSome (listed_in row (get_or row k d).0)
entry_listed [] k d lt = absurd (omega arith)
entry_listed (e ∷ row) zero d lt = rw (listed_first e row) refl
entry_listed (e ∷ row) (suc k) d lt = elim (eqb_tells e.0 (get_or row k d).0) [
  | inl t ↦ rw (listed_here e row (get_or row k d).0 t.0) refl
  | inr t ↦ rw (listed_later e row (get_or row k d).0 t.0) (entry_listed row k d (omega arith))
]

-- an entry of a rising row is what the row gives for its object
pub rising_listed : (row : Listing) (k : ℕ) (d : ℕ × ℤ) → IsRising row → k < length row → listed_in row (get_or row k d).0 ≡ Some (get_or row k d).1
rising_listed [] k d rising lt = absurd (omega arith)
rising_listed (e ∷ row) zero d rising lt = listed_first e row
rising_listed (e ∷ row) (suc k) d rising lt =
    let above : e.0 < (get_or row k d).0 = rising 0 (suc k) d (omega arith) lt in
    elim (eqb_tells e.0 (get_or row k d).0) [
      | inl t ↦ let same = t.1 in absurd (omega arith)
      | inr t ↦ listed_later e row (get_or row k d).0 t.0 ∙ rising_listed row k d (λ i m f l last. rising (suc i)
          (suc m) f (omega arith) (omega arith)) (omega arith)
    ]

-- a number whose row lists something is a person
pub listing_within : (rows : List Listing) (i j : ℕ) → IsListed rows i j → IsNumber (length rows) i
listing_within rows zero j l = absurd (none_listed j l)
listing_within rows (suc k) j l = elim (cases_lt k (length rows)) [
  | inl lt ↦ record { first = omega arith; last = omega arith }
  | inr past ↦ absurd (none_listed j (subst (λ row. IsSome (listed_in row j)) (get_or_past rows k [] past) l))
]

-- the person and the object of a listed pair
pub record IsListedPair (n i j : ℕ) : Type 0 where
  pub person : IsNumber n i
  pub object : IsNumber n j

pub listed_range : (rows : List Listing) (i j : ℕ) → IsProblem rows → IsListed rows i j → IsListedPair (length rows) i j
listed_range rows zero j h l = absurd (none_listed j l)
listed_range rows (suc k) j h l =
    let person = listing_within rows (suc k) j l in
    record {
      person = person;
      object = object_within (length rows) (get_or rows k []) j (h.each k [] (let last = person.last in omega arith)).within l;
    }
