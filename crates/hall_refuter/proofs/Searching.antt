-- The steps of a search, from its beginning to its answer.
use Rattle.std.proofs.Common.{◌≡◌, ℕ, ◌+◌, ◌<◌, zero, suc, List, [], ◌∷◌, Option, None, Some, Bool, false, ◌↔◌}
use Rattle.std.proofs.Common.{length, replicate, get_or, cond, reverse, ap, arith, refl, sym, subst, ◌∙◌, inl, inr}
use Rattle.std.specs.List.{All}
use Rattle.std.proofs.lemmas.List.{get_or_default, length-replicate}
use Rattle.std.proofs.lemmas.List.Folds.{sum_by-replicate}
use Rattle.assign_core.specs.Numbered.{IsNumber, IsMarked}
use Rattle.assign_core.specs.Rows.{Listing, IsListed}
use Rattle.assign_core.specs.Matching.{IsMatching, owner_of}
use Rattle.assign_core.specs.Hall.{HallLists}
use Rattle.assign_core.specs.Reach.{IsBlocked, IsPath}
use Rattle.assign_core.proofs.NumberedLemmas.{low_or_same}
use Rattle.assign_core.proofs.HallReach.{path_open}
use Rattle.hall_refuter.specs.declared.reach.Found.{Found}
use Rattle.hall_refuter.specs.inside.Found.{beginner, person_at, arrival_object, IsArrived, IsReach, IsWalked, IsVisited, Grows, Climbs}
use Rattle.hall_refuter.specs.Search.{IsFound, IsHall, IsRefuted}
use Rattle.hall_refuter.specs.declared.search.Search.{Search}
use Rattle.hall_refuter.specs.declared.search.Search.TheVariants.{Hall, Path}
use Rattle.hall_refuter.proofs.Climbing.{path_found}
use Rattle.hall_refuter.proofs.Refuting.{IsOver, AreLists, found_within, refuted}

none_marked : (n j : ℕ) → IsMarked (replicate n false) j → ⊥
none_marked n zero m = cc
none_marked zero (suc k) m = cc
none_marked (suc n) (suc zero) m = cc
none_marked (suc n) (suc (suc k)) m = none_marked n (suc k) m

alone_at : (x t : ℕ) → t < 1 → get_or (beginner x ∷ []) t (beginner 0) ≡ beginner x
alone_at x zero lt = refl
alone_at x (suc t) lt = absurd (omega arith)

-- before any step
begun : (rows : List Listing) (owners : List (Option ℕ)) (x n : ℕ) → n ≡ length rows → IsReach rows owners (beginner x ∷ []) (replicate n false)
begun rows owners x n long = record {
  long = length-replicate n false ∙ long;
  count = let z = sum_by-replicate (λ b. cond {A = ℕ} b 1 0) n false in omega arith;
  arrived = λ t lt. subst (λ f. IsArrived rows owners (beginner x ∷ []) t f.person f.arrival) (sym (alone_at x t lt)) refl;
  apart = λ s t j below lt a b. absurd (omega arith);
  marked = λ t j lt a. let e : None ≡ Some j = ap (λ f. arrival_object f.arrival) (sym (alone_at x t lt)) ∙ a in absurd cc;
  through = λ j m. absurd (none_marked n j m);
}

pub begun_as : (rows : List Listing) (owners : List (Option ℕ)) (x n : ℕ) (found : List Found) (met : List Bool) →
    found ≡ beginner x ∷ [] → met ≡ replicate n false → n ≡ length rows → IsReach rows owners found met
begun_as rows owners x n found met f m long = rw (f, m) (begun rows owners x n long)

-- one more person is visited
pub walked_more : (rows : List Listing) (found later : List Found) (met marks : List Bool) (h : ℕ) →
    IsWalked rows found met h → h < length found → Grows found met later marks →
    ((j : ℕ) → IsListed rows (person_at found h) j → IsMarked marks j) → IsWalked rows later marks (h + 1)
walked_more rows found later met marks h walked lt g here t j below l = elim (low_or_same t h below) [
  | inl less ↦ g.kept j (walked t j less (subst (λ x. IsListed rows x j) (g.same t (omega arith)) l))
  | inr same ↦ here j (subst (λ x. IsListed rows x j) (g.same h lt) (subst (λ q. IsListed rows (person_at later q) j) same l))
]

first_within : (rows : List Listing) (found : List Found) (x : ℕ) → person_at found 0 ≡ x →
    IsNumber (length rows) x → IsNumber (length rows) (person_at found 0)
first_within rows found x e number = subst (IsNumber (length rows)) (sym e) number

-- a person found is one of the problem
pub person_within : (rows : List Listing) (owners : List (Option ℕ)) (found : List Found) (met : List Bool)
    (x t : ℕ) → IsReach rows owners found met → IsMatching rows owners → person_at found 0 ≡ x →
    IsNumber (length rows) x → t < length found →
    IsNumber (length rows) (person_at found t)
person_within rows owners found met x t r m e number lt = found_within rows owners found met r m (first_within rows found x e number) t lt

pub all_within : (rows : List Listing) (owners : List (Option ℕ)) (found : List Found) (met : List Bool) (x : ℕ) →
    IsReach rows owners found met → IsMatching rows owners → person_at found 0 ≡ x → IsNumber (length rows) x →
    All (λ f. IsNumber (length met) f.person) found
all_within rows owners found met x r m e number k d lt =
    let same = get_or_default found k d (beginner 0) lt in
    let w = person_within rows owners found met x k r m e number lt in
    rw (same, r.long) w

-- the search is over
pub hall_answer : (rows : List Listing) (owners : List (Option ℕ)) (found : List Found) (met : List Bool) (x h : ℕ)
    (lists : HallLists) → IsReach rows owners found met → IsMatching rows owners → person_at found 0 ≡ x →
    IsNumber (length rows) x →
    ((j : ℕ) → owner_of owners j ≡ Some x → ⊥) → IsWalked rows found met h → h ≡ length found →
    AreLists found met lists.persons lists.objects → IsRefuted rows owners x lists
hall_answer rows owners found met x h lists r m e number alone walked all are =
    let over : IsOver rows owners found met = record {
      reach = r;
      walked = subst (IsWalked rows found met) all walked;
      matching = m;
      first = first_within rows found x e number;
      alone = λ j own. alone j (own ∙ ap Some e);
    } in
    subst (λ y. IsRefuted rows owners y lists) e (refuted rows owners found met lists over are)

-- an unowned object is met
pub path_answer : (rows : List Listing) (owners : List (Option ℕ)) (found later : List Found)
    (met marks : List Bool) (x h j : ℕ) (path : List ℕ) → IsReach rows owners later marks →
    Grows found met later marks → person_at found 0 ≡ x → h < length found →
    IsVisited rows owners marks (person_at found h) (Some j) → (js : List ℕ) × Climbs later h js × (path ≡ reverse (j ∷ js)) → IsPath rows owners x path
path_answer rows owners found later met marks x h j path r g e lt v w =
    let longer = g.longer in
    let p = path_found rows owners later marks h j w.0 path r (omega arith) (subst (λ y. IsListed rows y j) (sym (g.same h lt)) v.0) v.1 w.1 w.2 in
    subst (λ y. IsPath rows owners y path) (g.same 0 (omega arith) ∙ e) p

-- the answer is a Hall set exactly where each listed object is owned
pub hall_where_blocked : (rows : List Listing) (owners : List (Option ℕ)) (x : ℕ) (search : Search) →
    IsFound rows owners x search → IsHall search ↔ IsBlocked rows owners x
hall_where_blocked rows owners x (Hall lists) h = ((λ _. h.blocked), (λ _. tt))
hall_where_blocked rows owners x (Path path) p = ((λ h. absurd h), (λ b. path_open rows owners x path.items p b))
