-- The path from the first person of a search to an object, traced back from its end.
use Rattle.std.proofs.Common.{◌≡◌, ℕ, ◌<◌, List, [], ◌∷◌, ◌++◌, Option, None, Some, Bool, false, length, get_or}
use Rattle.std.proofs.Common.{nat_eq, ap, append_assoc, append-nil, arith, refl, sym, subst, ◌∙◌, inl, inr, ◌⊎◌}
use Rattle.std.proofs.Common.{reverse}
use Rattle.std.specs.List.{AllByRecursion, IsDistinct}
use Rattle.std.proofs.lemmas.Bool.Decides.{eqb_tells}
use Rattle.std.proofs.lemmas.List.{reverse-append, get_or_default}
use Rattle.std.proofs.lemmas.Map.Keys.{IsDistinct-cons}
use Rattle.assign_core.specs.Rows.{Listing, IsListed}
use Rattle.assign_core.specs.Matching.{owner_of}
use Rattle.assign_core.specs.Reach.{Alternates, IsPath}
use Rattle.hall_refuter.specs.declared.reach.Arrival.{Arrival}
use Rattle.hall_refuter.specs.declared.reach.Found.{Found}
use Rattle.hall_refuter.specs.inside.Found.{beginner, person_at, arrival_at, arrival_object, object_at, IsArrived, IsReach, IsClimbable, Climbs}

pub arrival_is : (found : List Found) (t : ℕ) (d : Found) (o : Option Arrival) → t < length found → (get_or found t d).arrival ≡ o → arrival_at found t ≡ o
arrival_is found t d o lt e = ap (λ g. g.arrival) (get_or_default found t (beginner 0) d lt) ∙ e

-- one more object on the way
pub one_more : (found : List Found) (last j t : ℕ) (a : Arrival) (objects longer : List ℕ) → arrival_at found t ≡ Some a → longer ≡ objects ++ a.object ∷ [] →
    ((js : List ℕ) → Climbs found t js → (ks : List ℕ) × Climbs found last ks × (objects ++ js ≡ j ∷ ks)) →
    (js : List ℕ) → Climbs found a.parent js → (ks : List ℕ) × Climbs found last ks × (longer ++ js ≡ j ∷ ks)
one_more found last j t a objects longer at e whole js c =
    let w = whole (a.object ∷ js) (a, at, refl, c) in
    (w.0, w.1, ap (λ l. l ++ js) e ∙ append_assoc objects (a.object ∷ []) js ∙ w.2)

-- the first person is met
pub all_on_the_way : (found : List Found) (last j t : ℕ) (objects path : List ℕ) → arrival_at found t ≡ None → path ≡ reverse objects →
    ((js : List ℕ) → Climbs found t js → (ks : List ℕ) × Climbs found last ks × (objects ++ js ≡ j ∷ ks)) →
    (js : List ℕ) × Climbs found last js × (path ≡ reverse (j ∷ js))
all_on_the_way found last j t objects path at e whole =
    let w = whole [] at in
    (w.0, w.1, e ∙ ap reverse (sym (append-nil objects) ∙ w.2))

-- the object is unowned, or a person found after place t was reached through it
IsBeyond : List (Option ℕ) → List Found → ℕ → ℕ → Type 0
IsBeyond owners found t k = (owner_of owners k ≡ None) ⊎ ((s : ℕ) × (t < s) × (s < length found) × (object_at found s ≡ Some k))

-- a path on from the person at place t
record IsPathOn (rows : List Listing) (owners : List (Option ℕ)) (found : List Found) (t : ℕ) (ks : List ℕ) : Type 0 where
  alternates : Alternates rows owners (person_at found t) ks
  apart : IsDistinct nat_eq ks
  beyond : AllByRecursion (IsBeyond owners found t) ks

alternates_on : (rows : List Listing) (owners : List (Option ℕ)) (x y j : ℕ) (ks : List ℕ) → IsListed rows y j →
    owner_of owners j ≡ Some x → Alternates rows owners x ks → Alternates rows owners y (j ∷ ks)
alternates_on rows owners x y j [] l o a = absurd a
alternates_on rows owners x y j (k ∷ ks) l o a = (l, x, o, a)

beyond_more : (owners : List (Option ℕ)) (found : List Found) (p t k : ℕ) → p < t → IsBeyond owners found t k → IsBeyond owners found p k
unfolding IsBeyond
beyond_more owners found p t k lt b = elim b [ inl free ↦ inl free | inr s ↦ inr (s.0, (let l = s.1 in omega arith), s.2, s.3) ]

all_beyond_more : (owners : List (Option ℕ)) (found : List Found) (p t : ℕ) (ks : List ℕ) → p < t →
    AllByRecursion (IsBeyond owners found t) ks → AllByRecursion (IsBeyond owners found p) ks
all_beyond_more owners found p t [] lt b = tt
all_beyond_more owners found p t (k ∷ ks) lt b = (beyond_more owners found p t k lt b.0, all_beyond_more owners found p t ks lt b.1)

-- the object through which the person at place t was reached isn't among those after it
differs : (rows : List Listing) (owners : List (Option ℕ)) (found : List Found) (met : List Bool) (t j x k : ℕ) →
    IsReach rows owners found met → owner_of owners j ≡ Some x → object_at found t ≡ Some j →
    IsBeyond owners found t k → nat_eq j k ≡ false
unfolding IsBeyond
differs rows owners found met t j x k r o at b = elim (eqb_tells j k) [
  | inr e ↦ e.0
  | inl e ↦ elim b [
    | inl free ↦ let f : Some x ≡ None = sym o ∙ ap (owner_of owners) e.1 ∙ free in absurd cc
    | inr s ↦ absurd (r.apart t s.0 j s.1 s.2 at (s.3 ∙ ap Some (sym e.1)))
  ]
]

all_differ : (rows : List Listing) (owners : List (Option ℕ)) (found : List Found) (met : List Bool) (t j x : ℕ)
    (ks : List ℕ) → IsReach rows owners found met → owner_of owners j ≡ Some x → object_at found t ≡ Some j →
    AllByRecursion (IsBeyond owners found t) ks → AllByRecursion (λ k. nat_eq j k ≡ false) ks
all_differ rows owners found met t j x [] r o at b = tt
all_differ rows owners found met t j x (k ∷ ks) r o at b = (
  differs rows owners found met t j x k r o at b.0,
  all_differ rows owners found met t j x ks r o at b.1,
)

here_beyond : (owners : List (Option ℕ)) (found : List Found) (p t j : ℕ) → p < t → t < length found → object_at found t ≡ Some j → IsBeyond owners found p j
unfolding IsBeyond
here_beyond owners found p t j lt last at = inr (t, lt, last, at)

pub arrived_as : (rows : List Listing) (owners : List (Option ℕ)) (found : List Found) (met : List Bool) (t : ℕ)
    (o : Option Arrival) → IsReach rows owners found met → t < length found → arrival_at found t ≡ o →
    IsArrived rows owners found t (person_at found t) o
arrived_as rows owners found met t o r lt e = subst (IsArrived rows owners found t (person_at found t)) e (r.arrived t lt)

path_up : (rows : List Listing) (owners : List (Option ℕ)) (found : List Found) (met : List Bool) (t : ℕ)
    (ks : List ℕ) (a : Arrival) → IsReach rows owners found met → t < length found → arrival_at found t ≡ Some a →
    IsPathOn rows owners found t ks →
    IsPathOn rows owners found a.parent (a.object ∷ ks)
path_up rows owners found met t ks a r lt e p =
    let h = arrived_as rows owners found met t (Some a) r lt e in
    let at : object_at found t ≡ Some a.object = ap arrival_object e in
    record {
      alternates = alternates_on rows owners (person_at found t) (person_at found a.parent) a.object ks h.1 h.2 p.alternates;
      apart = IsDistinct-cons nat_eq a.object ks (all_differ rows owners found met t a.object (person_at found t) ks r h.2 at p.beyond) p.apart;
      beyond = (here_beyond owners found a.parent t a.object h.0 lt at, all_beyond_more owners found a.parent t ks h.0 p.beyond);
    }

turned : (j : ℕ) (js ks : List ℕ) → reverse (j ∷ js) ++ ks ≡ reverse js ++ (j ∷ ks)
turned j js ks = ap (λ l. l ++ ks) (reverse-append (j ∷ []) js) ∙ append_assoc (reverse js) (j ∷ []) ks

climbed : (rows : List Listing) (owners : List (Option ℕ)) (found : List Found) (met : List Bool) (t : ℕ)
    (js ks : List ℕ) → IsReach rows owners found met → t < length found → Climbs found t js →
    IsPathOn rows owners found t ks →
    IsPath rows owners (person_at found 0) (reverse js ++ ks)
climbed rows owners found met t [] ks r lt c p =
    let h = arrived_as rows owners found met t None r lt c in
    record { alternates = subst (λ x. Alternates rows owners x ks) h p.alternates; apart = p.apart }
climbed rows owners found met t (j ∷ js) ks r lt c p =
    let h = arrived_as rows owners found met t (Some c.0) r lt c.1 in
    let below = h.0 in
    let up = path_up rows owners found met t ks c.0 r lt c.1 p in
    let on : IsPathOn rows owners found c.0.parent (j ∷ ks) = subst (λ i. IsPathOn rows owners found c.0.parent (i ∷ ks)) c.2 up in
    rw turned (climbed rows owners found met c.0.parent js (j ∷ ks) r (omega arith) c.3 on)

-- the objects up to an unowned one, from the first person on
pub path_found : (rows : List Listing) (owners : List (Option ℕ)) (found : List Found) (met : List Bool)
    (last j : ℕ) (js path : List ℕ) → IsReach rows owners found met → last < length found →
    IsListed rows (person_at found last) j → owner_of owners j ≡ None → Climbs found last js →
    path ≡ reverse (j ∷ js) → IsPath rows owners (person_at found 0) path
unfolding IsDistinct IsBeyond
path_found rows owners found met last j js path r lt l free c e =
    let end : IsPathOn rows owners found last (j ∷ []) = record {
      alternates = (l, free);
      apart =
          IsDistinct-cons nat_eq j [] tt nothing_apart;
      beyond = (free_beyond, tt);
    } in
    let p = climbed rows owners found met last js (j ∷ []) r lt c end in
    let t : reverse (j ∷ js) ≡ reverse js ++ (j ∷ []) = reverse-append (j ∷ []) js in
    rw (e, t) p where
      nothing_apart : IsDistinct {K = ℕ} nat_eq []
      nothing_apart = tt

      free_beyond : IsBeyond owners found last j
      free_beyond = inl free

-- each parent was found before
pub climbable : (rows : List Listing) (owners : List (Option ℕ)) (found : List Found) (met : List Bool) → IsReach rows owners found met → IsClimbable found
climbable rows owners found met r = λ t a lt e. (arrived_as rows owners found met t (Some a) r lt e).0
