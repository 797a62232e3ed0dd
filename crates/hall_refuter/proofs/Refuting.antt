-- If each listed object is met, the persons found and the objects met are a Hall set.
use Rattle.std.proofs.Common.{◌≡◌, ℕ, ◌<◌, ◌↔◌, zero, suc, List, ◌∷◌, Option, None, Some, IsSome, Bool, false}
use Rattle.std.proofs.Common.{length, get_or, map, nat_eq, unwrap_or, ap, arith, refl, rules, sym, subst, ◌∙◌, inl}
use Rattle.std.proofs.Common.{inr}
use Rattle.std.specs.List.{All, Contains, IsDistinct}
use Rattle.std.specs.List.Sorted.{IsStrictlyIncreasing}
use Rattle.std.proofs.lemmas.Bool.Decides.{eqb_tells}
use Rattle.std.proofs.lemmas.List.{get_or-map, length-map}
use Rattle.std.proofs.lemmas.List.Elements.{Contains-get_or, recursion_from_All}
use Rattle.std.proofs.lemmas.Map.Keys.{IsDistinct-cons, IsDistinct-from_apart, below_from_sorted, sorted_from_strictly_increasing}
use Rattle.assign_core.specs.Numbered.{IsNumber, IsMarked}
use Rattle.assign_core.specs.Rows.{Listing, IsListed}
use Rattle.assign_core.specs.Matching.{IsMatching, owner_of}
use Rattle.assign_core.specs.Hall.{HallLists, IsNeighbour}
use Rattle.assign_core.specs.Reach.{IsReached, IsBlocked}
use Rattle.assign_core.proofs.Listed.{listing_within}
use Rattle.assign_core.proofs.HallSets.{few_among}
use Rattle.assign_core.proofs.HallReach.{reached_itself, reached_on, reached_within}
use Rattle.hall_refuter.specs.declared.reach.Arrival.{Arrival}
use Rattle.hall_refuter.specs.declared.reach.Found.{Found}
use Rattle.hall_refuter.specs.inside.Found.{person_at, arrival_at, arrival_object, object_at, IsAmongFirst, IsArrived, IsReach, IsWalked}
use Rattle.hall_refuter.specs.Search.{IsRefuted}
use Rattle.hall_refuter.proofs.Climbing.{arrived_as}

-- how the person at a place was reached through an object
through_of : (o : Option Arrival) (j : ℕ) → arrival_object o ≡ Some j → (a : Arrival) × (o ≡ Some a) × (a.object ≡ j)
through_of None j e = absurd cc
through_of (Some a) j e = (a, refl, cc)

pub owner_at : (rows : List Listing) (owners : List (Option ℕ)) (found : List Found) (met : List Bool) (t j : ℕ) →
    IsReach rows owners found met → t < length found → object_at found t ≡ Some j →
    (p : ℕ) × (p < t) × IsListed rows (person_at found p) j × (owner_of owners j ≡ Some (person_at found t))
owner_at rows owners found met t j r lt at =
    let a = through_of (arrival_at found t) j at in
    let h = arrived_as rows owners found met t (Some a.0) r lt a.1 in
    (a.0.parent, h.0, subst (IsListed rows (person_at found a.0.parent)) a.2 h.1, subst (λ i. owner_of owners i ≡ Some (person_at found t)) a.2 h.2)

-- a met object: a person that lists it, and its owner
pub met_object : (rows : List Listing) (owners : List (Option ℕ)) (found : List Found) (met : List Bool) (j : ℕ) →
    IsReach rows owners found met → IsMarked met j →
    (p : ℕ) × (t : ℕ) × (p < length found) × (t < length found) × IsListed rows (person_at found p) j × (owner_of owners j ≡ Some (person_at found t))
met_object rows owners found met j r m =
    let t = r.through j m in
    let o = owner_at rows owners found met t.0 j r t.1 t.2 in
    (o.0, t.0, (let a = o.1 in let b = t.1 in omega arith), t.1, o.2, o.3)

-- each person found is one of the problem
within_by : (rows : List Listing) (owners : List (Option ℕ)) (found : List Found) (t x : ℕ) (o : Option Arrival) →
    IsMatching rows owners → IsNumber (length rows) (person_at found 0) → IsArrived rows owners found t x o →
    IsNumber (length rows) x
within_by rows owners found t x None m w h = subst (IsNumber (length rows)) (sym h) w
within_by rows owners found t x (Some a) m w h = listing_within rows x a.object (m.listed x a.object h.2)

pub found_within : (rows : List Listing) (owners : List (Option ℕ)) (found : List Found) (met : List Bool) →
    IsReach rows owners found met → IsMatching rows owners → IsNumber (length rows) (person_at found 0) →
    (t : ℕ) → t < length found → IsNumber (length rows) (person_at found t)
found_within rows owners found met r m w t lt = within_by rows owners found t (person_at found t) (arrival_at found t) m w (r.arrived t lt)

-- each person found is reached
reached_by : (rows : List Listing) (owners : List (Option ℕ)) (found : List Found) (t x : ℕ) (o : Option Arrival) →
    ((p : ℕ) → p < t → IsReached rows owners (person_at found 0) (person_at found p)) →
    IsArrived rows owners found t x o → IsReached rows owners (person_at found 0) x
reached_by rows owners found t x None before h = subst (IsReached rows owners (person_at found 0)) (sym h) (reached_itself rows owners (person_at found 0))
reached_by rows owners found t x (Some a) before h = reached_on rows owners (person_at found 0)
    (person_at found a.parent) a.object x (before a.parent h.0) h.1 h.2

reached_below : (rows : List Listing) (owners : List (Option ℕ)) (found : List Found) (met : List Bool) (m t : ℕ) →
    IsReach rows owners found met → t < m → t < length found → IsReached rows owners (person_at found 0)
    (person_at found t)
reached_below rows owners found met zero t r below lt = absurd (omega arith)
reached_below rows owners found met (suc m) t r below lt =
    reached_by rows owners found t (person_at found t) (arrival_at found t)
    (λ p less. reached_below rows owners found met m p r (omega arith) (omega arith)) (r.arrived t lt)

-- the search is over: each object that a person found lists is met
pub record IsOver (rows : List Listing) (owners : List (Option ℕ)) (found : List Found) (met : List Bool) : Type 0 where
  pub reach : IsReach rows owners found met
  pub walked : IsWalked rows found met (length found)
  pub matching : IsMatching rows owners
  pub first : IsNumber (length rows) (person_at found 0)
  pub alone : (j : ℕ) → owner_of owners j ≡ Some (person_at found 0) → ⊥

among_met : (rows : List Listing) (owners : List (Option ℕ)) (found : List Found) (met : List Bool) (x j : ℕ) →
    IsOver rows owners found met → IsAmongFirst found x (length found) → IsListed rows x j → IsMarked met j
among_met rows owners found met x j o a l = o.walked a.0 j a.1 (subst (λ z. IsListed rows z j) (sym a.2) l)

among_on : (rows : List Listing) (owners : List (Option ℕ)) (found : List Found) (met : List Bool) (x j v : ℕ) →
    IsOver rows owners found met → IsAmongFirst found x (length found) → IsListed rows x j →
    owner_of owners j ≡ Some v → IsAmongFirst found v (length found)
among_on rows owners found met x j v o a l own =
    let m = met_object rows owners found met j o.reach (among_met rows owners found met x j o a l) in
    let same : Some (person_at found m.1) ≡ Some v = sym m.5 ∙ own in
    (m.1, m.3, cc)

found_reached : (rows : List Listing) (owners : List (Option ℕ)) (found : List Found) (met : List Bool) (x : ℕ) →
    IsOver rows owners found met → IsAmongFirst found x (length found) ↔ IsReached rows owners (person_at found 0) x
found_reached rows owners found met x o = (
  (λ a. subst (IsReached rows owners (person_at found 0)) a.2 (reached_below rows owners found met (length found) a.0 o.reach a.1 a.1)),
  (λ r.
      let some : 0 < length found = let c = o.reach.count in omega arith in
      reached_within (λ y. IsAmongFirst found y (length found)) rows owners (person_at found 0) x
      (λ y j v a l own. among_on rows owners found met y j v o a l own) (0, some, refl) r),
)

blocked : (rows : List Listing) (owners : List (Option ℕ)) (found : List Found) (met : List Bool) →
    IsOver rows owners found met → IsBlocked rows owners (person_at found 0)
blocked rows owners found met o x j r l =
    let a = (found_reached rows owners found met x o).1 r in
    let m = met_object rows owners found met j o.reach (among_met rows owners found met x j o a l) in
    some_is (owner_of owners j) (person_at found m.1) m.5 where
      some_is : (v : Option ℕ) (x : ℕ) → v ≡ Some x → IsSome v
      some_is None x e = absurd cc
      some_is (Some y) x e = search rules

-- the owner of an owned object
abbrev owner_number : List (Option ℕ) → ℕ → ℕ
owner_number owners j = unwrap_or (owner_of owners j) 0

owner_number_is : (owners : List (Option ℕ)) (j x : ℕ) → owner_of owners j ≡ Some x → owner_number owners j ≡ x
owner_number_is owners j x e = ap (λ o. unwrap_or o 0) e

differ : (a b : ℕ) → (a ≡ b → ⊥) → nat_eq a b ≡ false
differ a b ne = elim (eqb_tells a b) [ inl e ↦ absurd (ne e.1) | inr e ↦ e.0 ]

-- the lists that a search gives
pub record AreLists (found : List Found) (met : List Bool) (persons objects : List ℕ) : Type 0 where
  pub persons_rise : IsStrictlyIncreasing persons
  pub objects_rise : IsStrictlyIncreasing objects
  pub each_person : (x : ℕ) → Contains persons x ↔ IsAmongFirst found x (length found)
  pub each_object : (j : ℕ) → Contains objects j ↔ IsMarked met j

-- the owner of an object of the list
owned_at : (rows : List Listing) (owners : List (Option ℕ)) (found : List Found) (met : List Bool)
    (persons objects : List ℕ) (k : ℕ) → IsOver rows owners found met → AreLists found met persons objects →
    k < length objects →
    (t : ℕ) × (t < length found) × (owner_of owners (get_or objects k 0) ≡ Some (person_at found t))
owned_at rows owners found met persons objects k o l lt =
    let m = met_object rows owners found met (get_or objects k 0) o.reach ((l.each_object (get_or objects k 0)).0 (Contains-get_or objects k 0 lt)) in
    (m.1, m.3, m.5)

owners_apart : (rows : List Listing) (owners : List (Option ℕ)) (found : List Found) (met : List Bool)
    (persons objects : List ℕ) → IsOver rows owners found met → AreLists found met persons objects →
    IsDistinct nat_eq (map (owner_number owners) objects)
owners_apart rows owners found met persons objects o l =
    IsDistinct-from_apart nat_eq (map (owner_number owners) objects) (λ i k z lt last.
    let same : length (map (owner_number owners) objects) ≡ length objects = simp length-map in
    let high : k < length objects = omega arith in
    let low : i < length objects = omega arith in
    let a = owned_at rows owners found met persons objects i o l low in
    let b = owned_at rows owners found met persons objects k o l high in
    let x = get_or-map (owner_number owners) objects i 0 z low ∙ owner_number_is owners (get_or objects i 0) (person_at found a.0) a.2 in
    let y = get_or-map (owner_number owners) objects k 0 z high ∙ owner_number_is owners (get_or objects k 0) (person_at found b.0) b.2 in
    let below = below_from_sorted objects i k 0 (sorted_from_strictly_increasing objects l.objects_rise) lt high in
    rw (x, y) (differ (person_at found a.0) (person_at found b.0) (λ e.
    let j = o.matching.apart (person_at found a.0) (get_or objects i 0) (get_or objects k 0) a.2 (b.2 ∙ ap Some (sym e)) in
    omega arith)))

first_apart : (rows : List Listing) (owners : List (Option ℕ)) (found : List Found) (met : List Bool)
    (persons objects : List ℕ) → IsOver rows owners found met → AreLists found met persons objects →
    All (λ y. nat_eq (person_at found 0) y ≡ false) (map (owner_number owners) objects)
first_apart rows owners found met persons objects o l k d lt =
    let same : length (map (owner_number owners) objects) ≡ length objects = simp length-map in
    let high : k < length objects = omega arith in
    let b = owned_at rows owners found met persons objects k o l high in
    let y = get_or-map (owner_number owners) objects k 0 d high ∙ owner_number_is owners (get_or objects k 0) (person_at found b.0) b.2 in
    rw y (differ (person_at found 0) (person_at found b.0) (λ e. o.alone (get_or objects k 0) (b.2 ∙ ap Some (sym e))))

all_among : (rows : List Listing) (owners : List (Option ℕ)) (found : List Found) (met : List Bool)
    (persons objects : List ℕ) → IsOver rows owners found met → AreLists found met persons objects →
    (x : ℕ) → Contains (person_at found 0 ∷ map (owner_number owners) objects) x → Contains persons x
all_among rows owners found met persons objects o l x (zero, lt, at) =
    let some : 0 < length found = let c = o.reach.count in omega arith in
    (l.each_person x).1 (0, some, at)
all_among rows owners found met persons objects o l x (suc k, lt, at) =
    let same : length (map (owner_number owners) objects) ≡ length objects = simp length-map in
    let high : k < length objects = omega arith in
    let b = owned_at rows owners found met persons objects k o l high in
    let y = get_or-map (owner_number owners) objects k 0 x high ∙ owner_number_is owners (get_or objects k 0) (person_at found b.0) b.2 in
    (l.each_person x).1 (b.0, b.1, sym y ∙ at)

-- the first person and the owners of the objects are different persons
fewer : (rows : List Listing) (owners : List (Option ℕ)) (found : List Found) (met : List Bool)
    (persons objects : List ℕ) → IsOver rows owners found met → AreLists found met persons objects →
    length objects < length persons
fewer rows owners found met persons objects o l =
    let d = IsDistinct-cons nat_eq (person_at found 0) (map (owner_number owners) objects)
    (recursion_from_All (λ y. nat_eq (person_at found 0) y ≡ false) (map (owner_number owners) objects)
    (first_apart rows owners found met persons objects o l)) (owners_apart rows owners found met persons objects
    o l) in
    let few = few_among (person_at found 0 ∷ map (owner_number owners) objects) persons d (all_among rows owners found met persons objects o l) in
    let same : length (map (owner_number owners) objects) ≡ length objects = simp length-map in
    omega arith

is_neighbour : (rows : List Listing) (owners : List (Option ℕ)) (found : List Found) (met : List Bool)
    (persons objects : List ℕ) (j : ℕ) → IsOver rows owners found met → AreLists found met persons objects →
    Contains objects j ↔ IsNeighbour rows persons j
is_neighbour rows owners found met persons objects j o l = (
  (λ h.
      let m = met_object rows owners found met j o.reach ((l.each_object j).0 h) in
      (person_at found m.0, (l.each_person (person_at found m.0)).1 (m.0, m.2, refl), m.4)),
  (λ n. (l.each_object j).1 (among_met rows owners found met n.0 j o ((l.each_person n.0).0 n.1) n.2)),
)

persons_within : (rows : List Listing) (owners : List (Option ℕ)) (found : List Found) (met : List Bool)
    (persons objects : List ℕ) → IsOver rows owners found met → AreLists found met persons objects →
    All (IsNumber (length rows)) persons
persons_within rows owners found met persons objects o l k d lt =
    let a = (l.each_person (get_or persons k d)).0 (Contains-get_or persons k d lt) in
    subst (IsNumber (length rows)) a.2 (found_within rows owners found met o.reach o.matching o.first a.0 a.1)

pub refuted : (rows : List Listing) (owners : List (Option ℕ)) (found : List Found) (met : List Bool)
    (lists : HallLists) → IsOver rows owners found met → AreLists found met lists.persons lists.objects →
    IsRefuted rows owners (person_at found 0) lists
refuted rows owners found met lists o l = record {
  reached = λ x. (
    λ h. (found_reached rows owners found met x o).0 ((l.each_person x).0 h),
    λ r. (l.each_person x).1 ((found_reached rows owners found met x o).1 r),
  );
  hall = record {
    persons_rise = l.persons_rise;
    objects_rise = l.objects_rise;
    within = persons_within rows owners found met lists.persons lists.objects o l;
    neighbours = λ j. is_neighbour rows owners found met lists.persons lists.objects j o l;
    fewer = fewer rows owners found met lists.persons lists.objects o l;
  };
  blocked = blocked rows owners found met o;
}
