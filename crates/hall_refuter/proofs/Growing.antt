-- A search with one more person.
use Rattle.std.proofs.Common.{◌≡◌, ℕ, ℤ, pos, ◌+◌, ◌-◌, ◌<◌, ◌≤◌, List, [], ◌∷◌, ◌++◌, Option, None, Some, IsSome}
use Rattle.std.proofs.Common.{Bool, true, false, length, length-append, get_or, ap, arith, refl, sym, subst, ◌∙◌}
use Rattle.std.proofs.Common.{inl, inr, ◌⊎◌}
use Rattle.std.proofs.lemmas.Bool.{cases_eq}
use Rattle.std.proofs.lemmas.List.{get_or_append_left, get_or_push, get_or_read}
use Rattle.assign_core.specs.Numbered.{IsNumber, numbered, renumbered, IsMarked}
use Rattle.assign_core.proofs.NumberedLemmas.{length-renumbered, low_or_same, numbered-index, numbered-other}
use Rattle.assign_core.proofs.Listed.{entry_listed, place_of}
use Rattle.assign_core.specs.Rows.{Listing, IsListed, listed_in, row_of}
use Rattle.assign_core.specs.Matching.{owner_of}
use Rattle.hall_refuter.specs.declared.reach.Arrival.{Arrival}
use Rattle.hall_refuter.specs.declared.reach.Found.{Found}
use Rattle.hall_refuter.specs.inside.Found.{beginner, owner_through, person_at, arrival_at, arrival_object, object_at, IsArrived, IsReach, Grows}
use Rattle.hall_refuter.proofs.Marks.{marked_same, marked_kept, count_more}

old_entry : (found : List Found) (e : Found) (t : ℕ) → t < length found → get_or (found ++ e ∷ []) t (beginner 0) ≡ get_or found t (beginner 0)
old_entry found e t lt = get_or_append_left found (e ∷ []) (beginner 0) t lt

new_entry : (found : List Found) (e : Found) → get_or (found ++ e ∷ []) (length found) (beginner 0) ≡ e
new_entry found e = get_or_push found e (beginner 0) (length found) refl

old_person : (found : List Found) (e : Found) (t : ℕ) → t < length found → person_at (found ++ e ∷ []) t ≡ person_at found t
old_person found e t lt = ap (λ f. f.person) (old_entry found e t lt)

arrived_later : (rows : List Listing) (owners : List (Option ℕ)) (found : List Found) (e : Found) (t x : ℕ) (o : Option Arrival) → t < length found →
    IsArrived rows owners found t x o → IsArrived rows owners (found ++ e ∷ []) t x o
arrived_later rows owners found e t x None lt h = h ∙ sym (old_person found e 0 (omega arith))
arrived_later rows owners found e t x (Some a) lt h =
    (h.0, subst (λ y. IsListed rows y a.object) (sym (old_person found e a.parent (omega (arith, h.0)))) h.1, h.2)

-- the person at a place of the longer list: an old one or the new one
old_or_new : (found : List Found) (e : Found) (t : ℕ) → t < length (found ++ e ∷ []) → (t < length found) ⊎ (t ≡ length found)
old_or_new found e t lt = let l = length-append found (e ∷ []) in grind arith

pushed_arrived : (rows : List Listing) (owners : List (Option ℕ)) (found : List Found) (met : List Bool) (x j p : ℕ)
    → IsReach rows owners found met → p < length found → IsListed rows (person_at found p) j →
    owner_of owners j ≡ Some x →
    (t : ℕ) → t < length (found ++ owner_through x j p ∷ []) →
    IsArrived rows owners (found ++ owner_through x j p ∷ []) t (person_at (found ++ owner_through x j p ∷ []) t)
    (arrival_at (found ++ owner_through x j p ∷ []) t)
pushed_arrived rows owners found met x j p r lt l o t h = elim (old_or_new found (owner_through x j p) t h) [
  | inl old ↦
      subst (λ f. IsArrived rows owners (found ++ owner_through x j p ∷ []) t f.person f.arrival) (sym (old_entry found (owner_through x j p) t old))
      (arrived_later rows owners found (owner_through x j p) t (person_at found t) (arrival_at found t) old (r.arrived t old))
  | inr e ↦
      let new : get_or (found ++ owner_through x j p ∷ []) t (beginner 0) ≡ owner_through x j p =
      ap (λ k. get_or (found ++ owner_through x j p ∷ []) k (beginner 0)) e ∙
      new_entry found (owner_through x j p) in
      subst (λ f. IsArrived rows owners (found ++ owner_through x j p ∷ []) t f.person f.arrival) (sym new)
      (omega arith, subst (λ y. IsListed rows y j) (sym (old_person found (owner_through x j p) p lt)) l, o)
]

-- the object of an old place, and of the new one
old_object : (found : List Found) (e : Found) (t i : ℕ) → t < length found → object_at (found ++ e ∷ []) t ≡ Some i → object_at found t ≡ Some i
old_object found e t i lt h = ap (λ f. arrival_object f.arrival) (sym (old_entry found e t lt)) ∙ h

new_object : (found : List Found) (x j p t i : ℕ) → t ≡ length found → object_at (found ++ owner_through x j p ∷ []) t ≡ Some i → j ≡ i
new_object found x j p t i e h =
    let new : get_or (found ++ owner_through x j p ∷ []) t (beginner 0) ≡ owner_through x j p =
    ap (λ k. get_or (found ++ owner_through x j p ∷ []) k (beginner 0)) e ∙ new_entry found (owner_through x j p) in
    let s : Some j ≡ Some i = ap (λ f. arrival_object f.arrival) (sym new) ∙ h in
    cc

pushed_apart : (rows : List Listing) (owners : List (Option ℕ)) (found : List Found) (met : List Bool) (x j p : ℕ) →
    IsReach rows owners found met → numbered met j false ≡ false →
    (s t i : ℕ) → s < t → t < length (found ++ owner_through x j p ∷ []) →
    object_at (found ++ owner_through x j p ∷ []) s ≡ Some i → object_at (found ++ owner_through x j p ∷ [])
    t ≡ Some i → ⊥
pushed_apart rows owners found met x j p r clear s t i below h a b = elim (old_or_new found (owner_through x j p) t h) [
  | inl old ↦ r.apart s t i below old (old_object found (owner_through x j p) s i (omega arith) a) (old_object found (owner_through x j p) t i old b)
  | inr e ↦
      let same : j ≡ i = new_object found x j p t i e b in
      let m : IsMarked met i = r.marked s i (omega arith) (old_object found (owner_through x j p) s i (omega arith) a) in
      let n : numbered met i false ≡ false = ap (λ k. numbered met k false) (sym same) ∙ clear in
      let f : true ≡ false = sym m ∙ n in
      cc
]

pushed_marked : (rows : List Listing) (owners : List (Option ℕ)) (found : List Found) (met : List Bool) (x j p : ℕ)
    → IsReach rows owners found met → IsNumber (length met) j →
    (t i : ℕ) → t < length (found ++ owner_through x j p ∷ []) → object_at (found ++ owner_through x j p ∷ []) t ≡ Some i → IsMarked (renumbered met j true) i
pushed_marked rows owners found met x j p r number t i h a = elim (old_or_new found (owner_through x j p) t h) [
  | inl old ↦ marked_kept met j i number (r.marked t i old (old_object found (owner_through x j p) t i old a))
  | inr e ↦ subst (IsMarked (renumbered met j true)) (new_object found x j p t i e a) (marked_same met j number)
]

pushed_through : (rows : List Listing) (owners : List (Option ℕ)) (found : List Found) (met : List Bool) (x j p : ℕ) → IsReach rows owners found met →
    (i : ℕ) → IsMarked (renumbered met j true) i → (t : ℕ) × (t < length (found ++ owner_through x j p ∷ [])) ×
    (object_at (found ++ owner_through x j p ∷ []) t ≡ Some i)
pushed_through rows owners found met x j p r i m =
    let l = length-append found (owner_through x j p ∷ []) in
    elim (cases_eq i j) [
      | inl e ↦ (length found, omega arith, ap (λ f. arrival_object f.arrival) (new_entry found (owner_through x j p)) ∙ ap Some (sym e))
      | inr ne ↦
          let was = r.through i (sym (numbered-other met j i true false ne) ∙ m) in
          (was.0, let lt = was.1 in omega arith, ap (λ f. arrival_object f.arrival) (old_entry found (owner_through x j p) was.0 was.1) ∙ was.2)
    ]

pub reach_pushed : (rows : List Listing) (owners : List (Option ℕ)) (found : List Found) (met : List Bool)
    (x j p : ℕ) → IsReach rows owners found met → p < length found → IsNumber (length met) j →
    IsListed rows (person_at found p) j → owner_of owners j ≡ Some x → numbered met j false ≡ false →
    IsReach rows owners (found ++ owner_through x j p ∷ []) (renumbered met j true)
reach_pushed rows owners found met x j p r lt number l o clear = record {
  long = length-renumbered met j true ∙ r.long;
  count = let a = length-append found (owner_through x j p ∷ []) in let b = count_more met j number clear in let c = r.count in omega arith;
  arrived = pushed_arrived rows owners found met x j p r lt l o;
  apart = pushed_apart rows owners found met x j p r clear;
  marked = pushed_marked rows owners found met x j p r number;
  through = pushed_through rows owners found met x j p r;
}

pub grows_through : (f g h : List Found) (a b c : List Bool) → Grows f a g b → Grows g b h c → Grows f a h c
grows_through f g h a b c first second = record {
  longer = let k = first.longer in let l = second.longer in omega arith;
  same = λ t lt. second.same t (let k = first.longer in omega arith) ∙ first.same t lt;
  kept = λ j m. second.kept j (first.kept j m);
}

-- an object that wasn't met, and through which its owner is found
pub met_found : (rows : List Listing) (owners : List (Option ℕ)) (found : List Found) (met : List Bool)
    (later : List Found) (marks : List Bool) (x j p i : ℕ) (mark : Bool) (d : Option ℕ) →
    later ≡ found ++ owner_through x j p ∷ [] → marks ≡ renumbered met j true → i ≡ j - 1 →
    IsNumber (length owners) j → length met ≡ length owners → p < length found →
    mark ≡ get_or met i mark → mark ≡ false → get_or owners i d ≡ Some x → IsReach rows owners found met → IsListed rows (person_at found p) j →
    IsReach rows owners later marks
met_found rows owners found met later marks x j p i mark d later_is marks_is same number long lt at clear own r l =
    let here : IsNumber (length met) j = subst (λ n. IsNumber n j) (sym long) number in
    let free : numbered met j false ≡ false = numbered-index met j mark false here.first here.last ∙ ap (λ k. get_or met k mark) (sym same) ∙ sym at ∙ clear in
    let o : owner_of owners j ≡ Some x = numbered-index owners j d None number.first number.last ∙ ap (λ k. get_or owners k d) (sym same) ∙ own in
    rw (later_is, marks_is) (reach_pushed rows owners found met x j p r lt here l o free)

-- the person at a place, as an index gives it
pub person_read : (found : List Found) (t : ℕ) (f : Found) → t < length found → f ≡ get_or found t f → person_at found t ≡ f.person
person_read found t f lt at = ap (λ g. g.person) (sym (get_or_read found t f lt at (beginner 0)))

-- an entry of the person's row is listed
pub listed_item : (rows : List Listing) (x y : ℕ) (row : Listing) (k : ℕ) (e : ℕ × ℤ) → row ≡ row_of rows y →
    x ≡ y → k < length row → e ≡ get_or row k e → IsListed rows x e.0
listed_item rows x y row k e r same lt at =
    rw same (subst (λ f. IsSome (listed_in (row_of rows y) f.0)) (sym at) (subst (λ w. IsSome (listed_in w (get_or row k e).0)) r (entry_listed row k e lt)))

-- if all entries of the row are met, so is each listed object
pub all_met : (rows : List Listing) (x y : ℕ) (row : Listing) (marks : List Bool) (h : ℕ) → row ≡ row_of rows y →
    x ≡ y → length row ≤ h → ((k : ℕ) (d : ℕ × ℤ) → k < h → IsMarked marks (get_or row k d).0) →
    (j : ℕ) → IsListed rows x j → IsMarked marks j
all_met rows x y row marks h r same few m j l =
    let s : IsSome (listed_in row j) = rw r (rw same at l) in
    let e = place_of row j s in
    subst (IsMarked marks) (e.object (0, pos 0)) (m e.place (0, pos 0) (let lt = e.below in omega arith))

-- one more entry is met
pub more_met : (row : Listing) (marks : List Bool) (i : ℕ) (e : ℕ × ℤ) → ((k : ℕ) (d : ℕ × ℤ) → k < i →
    IsMarked marks (get_or row k d).0) → i < length row → e ≡ get_or row i e → IsMarked marks e.0 →
    (k : ℕ) (d : ℕ × ℤ) → k < i + 1 → IsMarked marks (get_or row k d).0
more_met row marks i e m lt at here k d below = elim (low_or_same k i below) [
  | inl less ↦ m k d less
  | inr same ↦ subst (λ z. IsMarked marks z.0) (get_or_read row i e lt at d ∙ ap (λ q. get_or row q d) (sym same)) here
]

-- a place that was there still has its person in the longer list
pub person_stays : (found later : List Found) (met marks : List Bool) (t : ℕ) (f : Found) →
    Grows found met later marks → t < length found → f ≡ get_or found t f → person_at later t ≡ f.person
person_stays found later met marks t f g lt at = g.same t lt ∙ person_read found t f lt at
