-- Pairs where rivals count once: one more pair counts if it has no rival before it.
use Rattle.std.proofs.Common.{◌≡◌, ℕ, ◌+◌, ◌<◌, List, [], ◌∷◌, ◌++◌, take, length, get_or, Bool, true, false, cond, append-nil, ◌||◌, inl, inr, refl, ap, sym, ◌∙◌, arith, subst}
use Rattle.std.specs.Prelude.{if◌then◌else◌}
use Rattle.std.specs.List.{Contains, list_any}
use Rattle.std.proofs.lemmas.Bool.{or_right}
use Rattle.std.proofs.lemmas.List.{get_or-take, length-take-le}
use Rattle.std.proofs.lemmas.List.Folds.{list_any-append}
use Rattle.assign_core.specs.Sparse.{Triple}
use Rattle.assign_core.proofs.Members.{contains_first, contains_later, first_or_later}
use Rattle.count_checker.specs.Counts.{are_rivals, chosen}
use Rattle.count_checker.specs.CountSets.{apart_count}
use Rattle.count_checker.specs.CountFaults.{IsChosen}
use Rattle.count_checker.proofs.Places.{chosen_at, chosen_from}
use Rattle.count_checker.proofs.RivalLaws.{shared, turned_rival}
use Rattle.count_checker.specs.declared.lists.CountLists.{CountLists}
use Rattle.count_checker.specs.CountLists.{AreCountLists, pair_at, problem_in}
use Rattle.count_checker.specs.inside.Holders.{HasHeldRival}
use Rattle.count_checker.proofs.Taking.{chosen_more}
use Rattle.count_checker.proofs.VerdictLaws.{at, long_pairs}

-- rivals have the same rivals
same_any : (groups : List ℕ) (s t : Triple) (xs : List Triple) → are_rivals groups s t ≡ true → list_any (are_rivals groups s) xs ≡ list_any (are_rivals groups t) xs
same_any groups s t [] e = refl
same_any groups s t (x ∷ xs) e =
    let h = same_any groups s t xs e in
    let f : are_rivals groups s x ≡ are_rivals groups t x = same_test (are_rivals groups s x) (are_rivals groups t x) refl refl in
    cc
  where
    same_test : (a b : Bool) → are_rivals groups s x ≡ a → are_rivals groups t x ≡ b → a ≡ b
    same_test true true p q = refl
    same_test false false p q = refl
    same_test true false p q = let r : are_rivals groups t x ≡ true = shared groups s t x e p in cc
    same_test false true p q = let r : are_rivals groups s x ≡ true = shared groups t s x (turned_rival groups s t e) q in cc

-- 1 for a pair without a rival
abbrev pub alone : Bool → ℕ
alone b = if b then 0 else 1

-- one more pair at the end
pub apart_one : (groups : List ℕ) (xs : List Triple) (t : Triple) → apart_count groups (xs ++ t ∷ []) ≡ apart_count groups xs + alone (list_any (are_rivals groups t) xs)
apart_one groups [] t = refl
apart_one groups (x ∷ xs) t =
    let h = apart_one groups xs t in
    let a : list_any (are_rivals groups x) (xs ++ t ∷ []) ≡ (list_any (are_rivals groups x) xs || list_any (are_rivals groups x) (t ∷ [])) = list_any-append (are_rivals groups x) xs (t ∷ []) in
    by_test (are_rivals groups t x) refl a h
  where
    by_test : (b : Bool) → are_rivals groups t x ≡ b → list_any (are_rivals groups x) (xs ++ t ∷ []) ≡ (list_any (are_rivals groups x) xs || list_any (are_rivals groups x) (t ∷ [])) →
        apart_count groups (xs ++ t ∷ []) ≡ apart_count groups xs + alone (list_any (are_rivals groups t) xs) →
        apart_count groups ((x ∷ xs) ++ t ∷ []) ≡ apart_count groups (x ∷ xs) + alone (are_rivals groups t x || list_any (are_rivals groups t) xs)
    by_test true e a h =
        let f : are_rivals groups x t ≡ true = turned_rival groups t x e in
        let one : list_any (are_rivals groups x) (t ∷ []) ≡ true = rw f refl in
        let on : list_any (are_rivals groups x) (xs ++ t ∷ []) ≡ true = a ∙ or_right (list_any (are_rivals groups x) xs) (list_any (are_rivals groups x) (t ∷ [])) one in
        let s : list_any (are_rivals groups t) xs ≡ list_any (are_rivals groups x) xs = same_any groups t x xs e in
        let left : alone (list_any (are_rivals groups x) (xs ++ t ∷ [])) ≡ 0 = ap (λ (b : Bool). alone b) on in
        let right : alone (are_rivals groups t x || list_any (are_rivals groups t) xs) ≡ 0 = ap (λ (b : Bool). alone (b || list_any (are_rivals groups t) xs)) e in
        let same : alone (list_any (are_rivals groups t) xs) ≡ alone (list_any (are_rivals groups x) xs) = ap (λ (b : Bool). alone b) s in
        omega arith
    by_test false e a h =
        let f : are_rivals groups x t ≡ false = off (are_rivals groups x t) refl in
        let same : list_any (are_rivals groups x) (xs ++ t ∷ []) ≡ list_any (are_rivals groups x) xs = a ∙ last (list_any (are_rivals groups x) xs) (are_rivals groups x t) f in
        let left : alone (list_any (are_rivals groups x) (xs ++ t ∷ [])) ≡ alone (list_any (are_rivals groups x) xs) = ap (λ (b : Bool). alone b) same in
        let right : alone (are_rivals groups t x || list_any (are_rivals groups t) xs) ≡ alone (list_any (are_rivals groups t) xs) = ap (λ (b : Bool). alone (b || list_any (are_rivals groups t) xs)) e in
        omega arith
      where
        off : (b : Bool) → are_rivals groups x t ≡ b → are_rivals groups x t ≡ false
        off true g = let k = turned_rival groups x t g in cc
        off false g = g

        last : (u v : Bool) → v ≡ false → (u || (v || false)) ≡ u
        last true v e = refl
        last false true e = absurd cc
        last false false e = refl

pub any_on : (p : Triple → Bool) (xs : List Triple) (t : Triple) → Contains xs t → p t ≡ true → list_any p xs ≡ true
any_on p [] t at e = absurd (omega (arith, at.1))
any_on p (x ∷ xs) t at e = elim (first_or_later x xs t at) [
  | inl same ↦ let f : p x ≡ true = ap p same ∙ e in rw f refl
  | inr later ↦ or_right (p x) (list_any p xs) (any_on p xs t later e)
]

pub any_off : (p : Triple → Bool) (xs : List Triple) → ((t : Triple) → Contains xs t → p t ≡ true → ⊥) → list_any p xs ≡ false
any_off p [] h = refl
any_off p (x ∷ xs) h =
    let f : p x ≡ false = off (p x) refl in
    let i : list_any p xs ≡ false = any_off p xs (λ t at. h t (contains_later x xs t at)) in
    rw f i
  where
    off : (b : Bool) → p x ≡ b → p x ≡ false
    off true g = absurd (h x (contains_first x xs) g)
    off false g = g

-- one more place, whose pair is marked and has no marked rival before it
module _ (l : CountLists) (lists : AreCountLists l) (plan : List Bool) (long : length plan ≡ length l.rows.now) (k : ℕ) (here : k < length l.rows.now) where
  in_pairs : k < length (problem_in l).pairs
  in_pairs = let e = long_pairs l lists in omega arith

  in_plan : k < length plan
  in_plan = omega arith

  abbrev pub front : List Triple
  front = chosen (take k (problem_in l).pairs) (take k plan)

  next : chosen (take (k + 1) (problem_in l).pairs) (take (k + 1) plan) ≡ front ++ cond (get_or plan k false) (get_or (problem_in l).pairs k (pair_at l k) ∷ []) []
  next = chosen_more (problem_in l).pairs plan k (pair_at l k) in_pairs in_plan

  is : get_or (problem_in l).pairs k (pair_at l k) ≡ pair_at l k
  is = at l lists k (pair_at l k) here

  next_on : IsChosen plan k → chosen (take (k + 1) (problem_in l).pairs) (take (k + 1) plan) ≡ front ++ pair_at l k ∷ []
  next_on taken = next ∙ ap (λ (b : Bool). front ++ cond b (get_or (problem_in l).pairs k (pair_at l k) ∷ []) []) taken ∙ ap (λ (t : Triple). front ++ t ∷ []) is

  next_off : get_or plan k false ≡ false → chosen (take (k + 1) (problem_in l).pairs) (take (k + 1) plan) ≡ front
  next_off off = next ∙ ap (λ (b : Bool). front ++ cond b (get_or (problem_in l).pairs k (pair_at l k) ∷ []) []) off ∙ append-nil front

  -- a pair of the front has its place below k
  place_of : (t : Triple) → Contains front t → (q : ℕ) × (q < k) × IsChosen plan q × (pair_at l q ≡ t)
  place_of t c =
      let s = chosen_at (take k (problem_in l).pairs) (take k plan) t c in
      let b = s.below in
      let e = length-take-le k (problem_in l).pairs (omega (arith, in_pairs)) in
      let lt : s.place < k = omega arith in (
        s.place,
        lt,
        sym (get_or-take k plan s.place false lt) ∙ s.taken,
        sym (at l lists s.place t (omega arith)) ∙ sym (get_or-take k (problem_in l).pairs s.place t lt) ∙ s.is t,
      )

  in_front : (q : ℕ) → q < k → IsChosen plan q → Contains front (pair_at l q)
  in_front q lt taken =
      let e = length-take-le k (problem_in l).pairs (omega (arith, in_pairs)) in
      let f = get_or-take k (problem_in l).pairs q (pair_at l q) lt ∙ at l lists q (pair_at l q) (omega arith) in
      subst (Contains front) f
      (chosen_from (take k (problem_in l).pairs) (take k plan) q (pair_at l q) (omega arith) (get_or-take k plan q false lt ∙ taken))

  pub counted_on : IsChosen plan k → (HasHeldRival l plan k → ⊥) →
      apart_count l.groups.now (chosen (take (k + 1) (problem_in l).pairs) (take (k + 1) plan)) ≡ apart_count l.groups.now front + 1
  counted_on taken none =
      let groups = l.groups.now in
      let off = any_off (are_rivals groups (pair_at l k)) front (λ t c e.
      let p = place_of t c in
      none (record { rival = p.0; less = p.1; taken = p.2; rivals = turned_rival groups (pair_at l k) (pair_at l p.0) (subst (λ u. are_rivals groups (pair_at l k) u ≡ true) (sym p.3) e) })) in
      ap (apart_count groups) (next_on taken) ∙ apart_one groups front (pair_at l k) ∙ ap (λ (b : Bool). apart_count groups front + alone b) off

  pub counted_held : IsChosen plan k → HasHeldRival l plan k →
      apart_count l.groups.now (chosen (take (k + 1) (problem_in l).pairs) (take (k + 1) plan)) ≡ apart_count l.groups.now front
  counted_held taken h =
      let groups = l.groups.now in
      let on = any_on (are_rivals groups (pair_at l k)) front (pair_at l h.rival) (in_front h.rival h.less h.taken) (turned_rival groups (pair_at l h.rival) (pair_at l k) h.rivals) in
      ap (apart_count groups) (next_on taken) ∙ apart_one groups front (pair_at l k) ∙ ap (λ (b : Bool). apart_count groups front + alone b) on ∙ (omega arith)

  pub counted_off : (IsChosen plan k → HasHeldRival l plan k) → apart_count l.groups.now (chosen (take (k + 1) (problem_in l).pairs) (take (k + 1) plan)) ≡ apart_count l.groups.now front
  counted_off h = by_mark (get_or plan k false) refl where
    by_mark : (b : Bool) → get_or plan k false ≡ b → apart_count l.groups.now (chosen (take (k + 1) (problem_in l).pairs) (take (k + 1) plan)) ≡ apart_count l.groups.now front
    by_mark true e = counted_held e (h e)
    by_mark false e = ap (apart_count l.groups.now) (next_off e)
