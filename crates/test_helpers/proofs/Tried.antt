-- The search that tries each assignment: an optimal one is found among those with each next object.
use Rattle.std.proofs.Common.{◌≡◌, ℕ, ℤ, pos, ◌<◌, ◌≤◌, ◌+◌, List, [], ◌∷◌, ◌++◌, Option, None, Some, IsSome}
use Rattle.std.proofs.Common.{MatchOption, length, take, get_or, nat_eq, false, refl, arith, ap, sym, ◌∙◌, subst}
use Rattle.std.proofs.Common.{◌⊎◌, inl, inr, add-one, length-append}
use Rattle.std.specs.Cmp.{IsEquivalence}
use Rattle.std.specs.List.{AllZip, IsDistinct, Contains, list_any}
use Rattle.std.proofs.lemmas.Int.{ints}
use Rattle.std.proofs.lemmas.Bool.{eqb-true, eqb-false, eq-eqb, cases_Bool}
use Rattle.std.proofs.lemmas.Bool.Decides.{eqb_tells, nat_tests}
use Rattle.std.proofs.lemmas.List.{take_more, take-take, take-append-le, take_all, get_or-take, get_or_default, get_or-append-add}
use Rattle.std.proofs.lemmas.Map.Keys.{apart_from_distinct, IsDistinct-from_apart, IsDistinct-push}
use Rattle.std.proofs.lemmas.Map.Views.{Contains-from_any}
use Rattle.std.proofs.lemmas.Slice.Zip.{AllZip-long, all_zipped_more}
use Rattle.assign_core.specs.declared.sense.Sense.{Sense}
use Rattle.assign_core.specs.declared.sense.Sense.TheVariants.{Min, Max}
use Rattle.assign_core.specs.Rows.{Listing, listed_in, row_of}
use Rattle.assign_core.specs.Assignment.{IsAssignment, IsBest, IsNoWorse, total}
use Rattle.test_helpers.specs.inside.Plain.{IsFront, Begins, IsBestIn, IsBetterOf}
use Rattle.assign_core.proofs.Listed.{entry_listed, place_of}
use Rattle.assign_core.proofs.Zips.{zip_at}

no_worse_itself : (sense : Sense) (a : ℤ) → IsNoWorse sense a a
no_worse_itself Min a = omega (arith, ints)
no_worse_itself Max a = omega (arith, ints)

no_worse_through : (sense : Sense) (a b c : ℤ) → IsNoWorse sense a b → IsNoWorse sense b c → IsNoWorse sense a c
no_worse_through Min a b c h k = omega (arith, ints)
no_worse_through Max a b c h k = omega (arith, ints)

-- an optimal one of some lists is one of the same lists under another description
pub bests_same : (sense : Sense) (rows : List Listing) (P Q : List ℕ → Type 0) (answer : Option (List ℕ)) →
    ((ys : List ℕ) → P ys → Q ys) → ((ys : List ℕ) → Q ys → P ys) → IsBestIn sense rows P answer → IsBestIn sense rows Q answer
bests_same sense rows P Q None to back h = λ ys q. h ys (back ys q)
bests_same sense rows P Q (Some xs) to back h = (to xs h.0, λ ys q. h.1 ys (back ys q))

-- the better one of two optimal ones is an optimal one of all
merged : (sense : Sense) (rows : List Listing) (P Q R : List ℕ → Type 0) (a b : Option (List ℕ)) (c : Option (List ℕ)) →
    ((ys : List ℕ) → P ys → R ys) → ((ys : List ℕ) → Q ys → R ys) → ((ys : List ℕ) → R ys → P ys ⊎ Q ys) →
    IsBestIn sense rows P a → IsBestIn sense rows Q b → IsBetterOf sense rows a b c → IsBestIn sense rows R c
merged sense rows P Q R None b c p q r ha hb e =
    rw e (bests_same sense rows Q R b q (λ ys h. elim (r ys h) [ inl f ↦ absurd (ha ys f) | inr f ↦ f ]) hb)
merged sense rows P Q R (Some xs) None c p q r ha hb e =
    rw e (p xs ha.0, λ ys h. elim (r ys h) [ inl f ↦ ha.1 ys f | inr f ↦ absurd (hb ys f) ])
merged sense rows P Q R (Some xs) (Some zs) c p q r ha hb e = elim e [
  | inl k ↦ rw k.0 (
    p xs ha.0,
    λ ys h. elim (r ys h) [
      | inl f ↦ ha.1 ys f
      | inr f ↦ no_worse_through sense (total rows xs) (total rows zs) (total rows ys) k.1 (hb.1 ys f)
    ],
  )
  | inr k ↦ rw k.0 (
    q zs hb.0,
    λ ys h. elim (r ys h) [
      | inl f ↦ no_worse_through sense (total rows zs) (total rows xs) (total rows ys) k.1 (ha.1 ys f)
      | inr f ↦ hb.1 ys f
    ],
  )
]

-- an assignment that begins with these objects and has one of the first k objects of a row next
pub record IsAmong (rows : List Listing) (front : List ℕ) (row : Listing) (k : ℕ) (xs : List ℕ) : Type 0 where
  pub begins : Begins rows front xs
  pub place : ℕ
  pub below : place < k
  pub next : (get_or row place (0, pos 0)).0 ≡ get_or xs (length front) 0

abbrev pub IsBestSoFar : Sense → List Listing → List ℕ → Listing → ℕ → Option (List ℕ) → Type 0
IsBestSoFar sense rows front row k answer = IsBestIn sense rows (IsAmong rows front row k) answer

pub none_yet : (sense : Sense) (rows : List Listing) (front : List ℕ) (row : Listing) → IsBestSoFar sense rows front row 0 None
none_yet sense rows front row = λ ys a. let b = a.below in absurd (omega arith)

assignment_length : (rows : List Listing) (xs : List ℕ) → IsAssignment rows xs → length xs ≡ length rows
assignment_length rows xs a = AllZip-long (λ row j. IsSome (listed_in row j)) rows xs a.listed

-- one more object may come next
wider : (rows : List Listing) (front : List ℕ) (row : Listing) (k : ℕ) (ys : List ℕ) → IsAmong rows front row k ys → IsAmong rows front row (k + 1) ys
wider rows front row k ys a = record { begins = a.begins; place = a.place; below = let b = a.below in omega arith; next = a.next }

-- the object at place k comes next, or one before it
narrower : (rows : List Listing) (front : List ℕ) (row : Listing) (k : ℕ) (ys : List ℕ) → IsAmong rows front row (k + 1) ys →
    IsAmong rows front row k ys ⊎ ((get_or row k (0, pos 0)).0 ≡ get_or ys (length front) 0)
narrower rows front row k ys a = elim (eqb_tells a.place k) [
  | inl e ↦ inr (ap (λ i. (get_or row i (0, pos 0)).0) (sym e.1) ∙ a.next)
  | inr e ↦ inl (record { begins = a.begins; place = a.place; below = let b = a.below in let d = e.1 in omega arith; next = a.next })
]

-- no assignment gives the next person an object of those before
not_again : (rows : List Listing) (front ys : List ℕ) (j : ℕ) → length front < length rows → Begins rows front ys →
    Contains front j → j ≡ get_or ys (length front) 0 → ⊥
not_again rows front ys j short b c e =
    let n : ℕ = length front in
    let long = assignment_length rows ys b.assigned in
    let here : get_or front c.0 j ≡ j = c.2 in
    let lt : c.0 < n = c.1 in
    let first : get_or (take n ys) c.0 j ≡ get_or ys c.0 j = get_or-take n ys c.0 j lt in
    let same : get_or (take n ys) c.0 j ≡ get_or front c.0 j = ap (λ l. get_or l c.0 j) b.same in
    let default : get_or ys n j ≡ get_or ys n 0 = get_or_default ys n j 0 (omega arith) in
    let apart : nat_eq (get_or ys c.0 j) (get_or ys n j) ≡ false = apart_from_distinct nat_eq ys c.0 n j b.assigned.apart lt (omega arith) in
    let one : get_or ys c.0 j ≡ j = sym first ∙ same ∙ here in
    let other : get_or ys n j ≡ j = default ∙ sym e in
    eqb-false (get_or ys c.0 j) (get_or ys n j) apart (one ∙ sym other)

-- the object of an entry, as a loop over a row reads it
pub object_at : (row : Listing) (k : ℕ) (e : ℕ × ℤ) → k < length row → e ≡ get_or row k e → e.0 ≡ (get_or row k (0, pos 0)).0
object_at row k e lt h = ap (λ f. f.0) (h ∙ get_or_default row k e (0, pos 0) lt)

-- a taken object adds nothing
pub step_taken : (sense : Sense) (rows : List Listing) (front : List ℕ) (row : Listing) (k j : ℕ) (answer : Option (List ℕ)) → length front < length rows →
    j ≡ (get_or row k (0, pos 0)).0 → Contains front j → IsBestSoFar sense rows front row k answer → IsBestSoFar sense rows front row (k + 1) answer
step_taken sense rows front row k j answer short e c h =
    bests_same sense rows (IsAmong rows front row k) (IsAmong rows front row (k + 1)) answer (wider rows front row k)
    (λ ys a. elim (narrower rows front row k ys a) [ inl f ↦ f | inr f ↦ absurd (not_again rows front ys j short a.begins c (e ∙ f)) ])
    h

-- an assignment begins with one more object if it begins with these and has this object next
begins_more : (rows : List Listing) (front ys : List ℕ) (j : ℕ) → length front < length rows →
    Begins rows front ys → j ≡ get_or ys (length front) 0 → Begins rows (front ++ j ∷ []) ys
begins_more rows front ys j short b e =
    let long = assignment_length rows ys b.assigned in
    let n : length (front ++ j ∷ []) ≡ length front + 1 = length-append front (j ∷ []) in
    let lt : length front < length ys = omega arith in
    record {
      assigned = b.assigned;
      same = ap (λ i. take i ys) n ∙ take_more ys (length front) 0 lt ∙
          ap (λ l. l ++ get_or ys (length front) 0 ∷ []) b.same ∙ ap (λ x. front ++ x ∷ []) (sym e);
    }

record IsNext (rows : List Listing) (front ys : List ℕ) (j : ℕ) : Type 0 where
  pub begins : Begins rows front ys
  pub next : j ≡ get_or ys (length front) 0

begins_less : (rows : List Listing) (front ys : List ℕ) (j : ℕ) → Begins rows (front ++ j ∷ []) ys → IsNext rows front ys j
begins_less rows front ys j b =
    let n : length (front ++ j ∷ []) ≡ length front + 1 = length-append front (j ∷ []) in
    let z : length front ≡ length front + 0 = omega arith in
    let same : take (length front + 1) ys ≡ front ++ j ∷ [] = ap (λ i. take i ys) (sym n) ∙ b.same in
    record {
      begins = record {
        assigned = b.assigned;
        same =
            sym (take-take (length front) (length front + 1) ys (omega arith))
            ∙ ap (take (length front)) same
            ∙ take-append-le (length front) front (j ∷ []) (omega arith)
            ∙ take_all (length front) front (omega arith);
      };
      next =
          sym (ap (λ i. get_or (front ++ j ∷ []) i 0) z ∙ get_or-append-add front (j ∷ []) 0 0)
          ∙ ap (λ l. get_or l (length front) 0) (sym same)
          ∙ get_or-take (length front + 1) ys (length front) 0 (omega arith);
    }

pub step_tried : (sense : Sense) (rows : List Listing) (front : List ℕ) (row : Listing) (k j : ℕ)
    (answer found better : Option (List ℕ)) → length front < length rows →
    j ≡ (get_or row k (0, pos 0)).0 → IsBestSoFar sense rows front row k answer → IsBestIn sense rows (Begins rows (front ++ j ∷ [])) found →
    IsBetterOf sense rows answer found better → IsBestSoFar sense rows front row (k + 1) better
step_tried sense rows front row k j answer found better short e h f m =
    merged sense rows (IsAmong rows front row k) (Begins rows (front ++ j ∷ [])) (IsAmong rows front row (k + 1)) answer found better
    (wider rows front row k)
    (λ ys b. let l = begins_less rows front ys j b in record { begins = l.begins; place = k; below = omega arith; next = sym e ∙ l.next })
    (λ ys a. elim (narrower rows front row k ys a) [ inl g ↦ inl g | inr g ↦ inr (begins_more rows front ys j short a.begins (e ∙ g)) ])
    h f m

-- all objects of the next person's row have been tried
pub all_tried : (sense : Sense) (rows : List Listing) (front : List ℕ) (row : Listing) (k : ℕ) (answer : Option (List ℕ)) → length front < length rows →
    row ≡ row_of rows (length front + 1) → length row ≤ k → IsBestSoFar sense rows front row k answer → IsBestIn sense rows (Begins rows front) answer
all_tried sense rows front row k answer short e end h =
    bests_same sense rows (IsAmong rows front row k) (Begins rows front) answer (λ ys a. a.begins)
    (λ ys b.
    let listed : IsSome (listed_in (get_or rows (length front) []) (get_or ys (length front) 0)) =
    zip_at (λ row j. IsSome (listed_in row j)) rows ys (length front) [] 0 b.assigned.listed short in
    let this : row ≡ get_or rows (length front) [] = e ∙ ap (row_of rows) (add-one (length front)) in
    let p = place_of row (get_or ys (length front) 0) (rw this listed) in
    record { begins = b; place = p.place; below = let l = p.below in omega arith; next = p.object (0, pos 0) })
    h

same_numbers : IsEquivalence nat_eq
same_numbers = record {
  refl = λ x. eq-eqb x x refl;
  symm = λ x y. grind (arith, nat_tests);
  congr = λ x y z h. ap (λ v. nat_eq v z) (eqb-true x y h);
}

pushed_apart : (xs : List ℕ) (j : ℕ) → IsDistinct nat_eq xs → (Contains xs j → ⊥) → IsDistinct nat_eq (xs ++ j ∷ [])
pushed_apart xs j d fresh =
    let none : list_any (nat_eq j) xs ≡ false = elim (cases_Bool (list_any (nat_eq j) xs)) [
      | inl h ↦ absurd (fresh (Contains-from_any {eq = nat_eq} eqb-true j xs h))
      | inr h ↦ h
    ] in
    IsDistinct-push {eq = nat_eq} same_numbers xs j d none

-- an untaken object makes the front longer
pub longer_front : (rows : List Listing) (front : List ℕ) (row : Listing) (k j : ℕ) → length front < length rows → IsFront rows front →
    row ≡ row_of rows (length front + 1) → k < length row → j ≡ (get_or row k (0, pos 0)).0 → (Contains front j → ⊥) → IsFront rows (front ++ j ∷ [])
longer_front rows front row k j short f e lt o fresh =
    let n : length (front ++ j ∷ []) ≡ length front + 1 = length-append front (j ∷ []) in
    let this : row ≡ get_or rows (length front) [] = e ∙ ap (row_of rows) (add-one (length front)) in
    let listed : IsSome (listed_in row j) = rw o (entry_listed row k (0, pos 0) lt) in
    record {
      short = omega arith;
      listed =
          subst (λ l. AllZip (λ r i. IsSome (listed_in r i)) l (front ++ j ∷ []))
          (sym (ap (λ i. take i rows) n ∙ take_more rows (length front) [] short))
          (all_zipped_more (λ r i. IsSome (listed_in r i)) (take (length front) rows) front
          (get_or rows (length front) []) j f.listed (subst (λ r. IsSome (listed_in r j)) this listed));
      apart = pushed_apart front j f.apart fresh;
    }

-- the objects of all persons are the only assignment that begins with them
pub whole_front : (sense : Sense) (rows : List Listing) (front : List ℕ) → length front ≡ length rows →
    IsFront rows front → IsBestIn sense rows (Begins rows front) (Some front)
whole_front sense rows front long f =
    let all : take (length front) rows ≡ rows = take_all (length front) rows (omega arith) in (
      record {
        assigned = record { listed = rw all at f.listed; apart = f.apart };
        same = take_all (length front) front (omega arith);
      },
      λ ys b.
          let n = assignment_length rows ys b.assigned in
          let same : ys ≡ front = sym (take_all (length front) ys (omega arith)) ∙ b.same in
          rw same (no_worse_itself sense (total rows front)),
    )

-- each assignment begins with no object
pub from_none : (sense : Sense) (rows : List Listing) (answer : Option (List ℕ)) → IsBestIn sense rows (Begins rows []) answer →
    MatchOption answer ((xs : List ℕ) → IsAssignment rows xs → ⊥) (IsBest sense rows)
from_none sense rows None h = λ xs a. h xs (record { assigned = a; same = refl })
from_none sense rows (Some xs) h = record { assigned = h.0.assigned; best = λ ys a. h.1 ys (record { assigned = a; same = refl }) }

pub best_assigned : (sense : Sense) (rows : List Listing) (P : List ℕ → Type 0) (answer : Option (List ℕ)) → ((ys : List ℕ) → P ys → IsAssignment rows ys) →
    IsBestIn sense rows P answer → MatchOption answer (Unit {0}) (IsAssignment rows)
best_assigned sense rows P None p h = tt
best_assigned sense rows P (Some xs) p h = p xs h.0

pub empty_front : (rows : List Listing) → IsFront rows []
empty_front rows = record { short = omega arith; listed = tt; apart = IsDistinct-from_apart nat_eq [] (λ i j d lt below. absurd (omega arith)) }
