-- The desks before and after the workers' runs.
use Rattle.std.proofs.Common.{◌≡◌, ℕ, zero, suc, ◌+◌, ◌<◌, List, [], ◌∷◌, ◌++◌, map, length, get_or, sym, ap, ◌∙◌, subst, refl, arith, append_assoc, add-one}
use Rattle.std.specs.List.{All}
use Rattle.std.proofs.lemmas.List.{map-append, length_push, length-map, get_or-map}
use Rattle.std.proofs.lemmas.List.Elements.{All-map, All-nil, All-push}
use Rattle.atomic_table.specs.Seated.{TableId}
use Rattle.crossbeam_utils.specs.declared.cache_padded.CachePadded.{CachePadded}
use Rattle.auction_book.specs.Book.{BookData}
use Rattle.async_workers.specs.declared.working.Worker.{Worker}
use Rattle.async_workers.specs.PlaceRule.{Extends}
use Rattle.async_workers.specs.Desk.{DeskData, IsAway, IsReady, IsTrueOf, new_desk, new_desks}
use Rattle.async_workers.specs.inside.Working.{HaveWorked, desk_in, fault_in}
use Rattle.async_workers.specs.Turns.{CanTurn, IsMemory, WorksOn}
use Rattle.async_workers.proofs.Desks.{new_desks_can}
use Rattle.async_workers.proofs.Extending.{extends_itself, extends_through}

-- ---- moving from the front of one list to the end of another
pub moved : {A B : Type 0} (f : A → B) (done : List A) (left old : List B) (x : A) → old ≡ f x ∷ left → map f (done ++ x ∷ []) ++ left ≡ map f done ++ old
moved f done left old x is = ap (λ l. l ++ left) (map-append f done (x ∷ [])) ∙ append_assoc (map f done) (f x ∷ []) left ∙ ap (λ l. map f done ++ l) (sym is)

pub moved_out : {A B : Type 0} (f : A → B) (done : List B) (left old : List A) (x : A) → old ≡ x ∷ left → (done ++ f x ∷ []) ++ map f left ≡ done ++ map f old
moved_out f done left old x is = append_assoc done (f x ∷ []) (map f left) ∙ ap (λ l. done ++ map f l) (sym is)

-- what holds of the elements of a mapped list
unmapped : {A B : Type 0} (P : B → Type 0) (f : A → B) (xs : List A) → All P (map f xs) → All (λ x. P (f x)) xs
unmapped P f xs all = λ k d lt. let e = length-map xs f in subst P (get_or-map f xs k d (f d) lt) (all k (f d) (omega (arith, lt, e)))

-- ---- what a run keeps
pub works_through : (d e f : DeskData) → WorksOn d e → WorksOn e f → WorksOn d f
works_through d e f first then = record {
  place = then.place ∙ first.place;
  base = then.base ∙ first.base;
  number = then.number ∙ first.number;
  extends = λ taken put away.
      let g = first.extends taken put away in
      let h = then.extends g.0 g.1 g.2 in
      (h.0, h.1, h.2, extends_through put g.1 h.1 g.3 h.3);
}

-- a desk of the place, whose last book extends the opening one
record IsFrom (place : TableId) (b : BookData) (d : DeskData) : Type 0 where
  pub at : d.place ≡ place
  pub extends : (taken : BookData) × (put : BookData) × IsAway d taken put × Extends b put

worked_from : (place : TableId) (b : BookData) (d e : DeskData) → IsFrom place b d → WorksOn d e → IsFrom place b e
worked_from place b d e f w =
    let g = f.extends in
    let h = w.extends g.0 g.1 g.2 in
    record { at = w.place ∙ f.at; extends = (h.0, h.1, h.2, extends_through b g.1 h.1 g.3 h.3) }

all_worked : (place : TableId) (b : BookData) (xs ys : List (CachePadded Worker)) → HaveWorked xs ys →
    All (λ w. IsFrom place b (desk_in w)) xs → All (λ w. IsFrom place b (desk_in w)) ys
all_worked place b xs ys w from = λ k d lt. let e = w.0 in let in_xs : k < length xs = omega (arith, e, lt) in
    worked_from place b (desk_in (get_or xs k d)) (desk_in (get_or ys k d)) (from k d in_xs) (w.1 k d in_xs).works

pub faults_in : (xs ys : List (CachePadded Worker)) → HaveWorked xs ys → All (λ w. IsMemory (fault_in w)) ys
faults_in xs ys w = λ k d lt. let e = w.0 in (w.1 k d (omega (arith, e, lt))).fault

-- ---- the new desks
all_new : (place : TableId) (b : BookData) (n : ℕ) → All (IsFrom place b) (new_desks place b n)
all_new place b zero = All-nil (IsFrom place b)
all_new place b (suc n) = All-push (IsFrom place b) (new_desks place b n) (new_desk place b (n + 1))
    (all_new place b n) (record { at = refl; extends = (b, b, refl, extends_itself b) })

length-new_desks : (place : TableId) (b : BookData) (n : ℕ) → length (new_desks place b n) ≡ n
length-new_desks place b zero = refl
length-new_desks place b (suc n) = length_push (new_desks place b n) (new_desk place b (n + 1)) ∙ ap (λ k. k + 1) (length-new_desks place b n) ∙ add-one n

-- the workers may start
pub workers_can : (place : TableId) (b : BookData) (n : ℕ) (xs : List (CachePadded Worker)) →
    map desk_in xs ≡ new_desks place b n → All (λ w. CanTurn place (desk_in w)) xs
workers_can place b n xs is = unmapped (CanTurn place) desk_in xs (new_desks_can place b n (map desk_in xs) is)

pub length_workers : (place : TableId) (b : BookData) (n : ℕ) (xs : List (CachePadded Worker)) → map desk_in xs ≡ new_desks place b n → length xs ≡ n
length_workers place b n xs is = sym (length-map xs desk_in) ∙ ap length is ∙ length-new_desks place b n

-- ---- the desks that come back
all_back : (place : TableId) (b : BookData) (n : ℕ) (xs ys : List (CachePadded Worker)) (ds : List DeskData) →
    map desk_in xs ≡ new_desks place b n → HaveWorked xs ys → ds ≡ map desk_in ys → All (IsFrom place b) ds
all_back place b n xs ys ds is w back =
    let from = unmapped (IsFrom place b) desk_in xs (subst (All (IsFrom place b)) (sym is) (all_new place b n)) in
    subst (All (IsFrom place b)) (sym back) (All-map (IsFrom place b) desk_in ys (all_worked place b xs ys w from))

pub back_ready : (place : TableId) (b : BookData) (n : ℕ) (xs ys : List (CachePadded Worker)) (ds : List DeskData) →
    map desk_in xs ≡ new_desks place b n → HaveWorked xs ys → ds ≡ map desk_in ys → All (IsReady place) ds
back_ready place b n xs ys ds is w back = λ k d lt. let f = all_back place b n xs ys ds is w back k d lt in (f.at, (f.extends.0, f.extends.1, f.extends.2))

-- a book of which all that a desk last learnt is true extends the opening one
pub back_extends : (place : TableId) (b c : BookData) (n : ℕ) (xs ys : List (CachePadded Worker))
    (ds : List DeskData) → map desk_in xs ≡ new_desks place b n → HaveWorked xs ys → ds ≡ map desk_in ys →
    0 < length ds → All (IsTrueOf c) ds → Extends b c
back_extends place b c n xs ys ds is w back some told =
    let d = new_desk place b 0 in
    let g = (all_back place b n xs ys ds is w back 0 d some).extends in
    extends_through b g.1 c g.3 (told 0 d some g.0 g.1 g.2).put_on
