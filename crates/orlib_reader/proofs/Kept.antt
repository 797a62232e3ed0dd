-- Rows that are filled as costs come.
use Rattle.std.proofs.Common.{◌≡◌, ℕ, ℤ, suc, ◌<◌, ◌≤◌, ◌+◌, ◌*◌, List, [], ◌∷◌, ◌++◌, length, take, drop, map}
use Rattle.std.proofs.Common.{flat_map, refl, arith, sym, ◌∙◌, ap, append_assoc, append-nil, length-append, nat_lt}
use Rattle.std.proofs.Common.{nat_le, nat_eq, cond, inl, inr, subst, Ok, Err, ◌-◌}
use Rattle.std.specs.List.{All}
use Rattle.std.proofs.Math.Seq.{take-append_seam, drop-append_seam}
use Rattle.std.proofs.lemmas.List.{map-append, length-map}
use Rattle.std.proofs.lemmas.Grind.{flat_map-append}
use Rattle.std.proofs.lemmas.List.Elements.{All-push, All-head, All-tail, All-take}
use Rattle.std.proofs.lemmas.Bool.{cases_Bool, cond-true, cond-false, lt-ltb, le-ltb, ltb-true, ltb-false, leb-true, leb-false, eq-eqb, ne_eqb}
use Rattle.assign_core.specs.Rows.{IsProblem}
use Rattle.assign_core.proofs.DenseRows.{IsProblem-dense, row_from-push}
use Rattle.orlib_reader.specs.Texts.{wanted_in, ended, Meets, dense_problem}
use Rattle.orlib_reader.specs.declared.layout.Layout.TheVariants.{Dense}
use Rattle.orlib_reader.specs.Wanted as wanted
use Rattle.orlib_reader.specs.declared.fault.InputFault.TheVariants as faults
use Rattle.assign_core.specs.Rows.{Listing, IsCost}
use Rattle.assign_core.specs.Dense.{row_from, rows_cut, dense_rows}
use Rattle.orlib_reader.specs.inside.Kept.{costs_of, kept_costs, kept_numbers, HasNoGap, IsFull, IsKept}

pub costs_of-push : (row : Listing) (j : ℕ) (c : ℤ) → costs_of (row ++ (j, c) ∷ []) ≡ costs_of row ++ c ∷ []
costs_of-push row j c = map-append (λ e. e.1) row ((j, c) ∷ [])

no_gap_push : (row : Listing) (c : ℤ) → HasNoGap row → HasNoGap (row ++ (length row + 1, c) ∷ [])
no_gap_push row c h =
    let long : length (costs_of row) ≡ length row = length-map row (λ e. e.1) in
    let same : 1 + length (costs_of row) ≡ length row + 1 = omega arith in
    sym (ap (row_from 1) (costs_of-push row (length row + 1) c) ∙ row_from-push 1 (costs_of row) c
    ∙ ap (λ r. r ++ (1 + length (costs_of row), c) ∷ []) (sym h)
    ∙ ap (λ k. row ++ (k, c) ∷ []) same)

pub costs_pushed : (rows : List Listing) (row : Listing) (j : ℕ) (c : ℤ) → kept_costs rows (row ++ (j, c) ∷ []) ≡ kept_costs rows row ++ c ∷ []
costs_pushed rows row j c = ap (λ cs. flat_map costs_of rows ++ cs) (costs_of-push row j c) ∙
    sym (append_assoc (flat_map costs_of rows) (costs_of row) (c ∷ []))

pub costs_moved : (rows : List Listing) (row : Listing) → kept_costs (rows ++ row ∷ []) [] ≡ kept_costs rows row
costs_moved rows row =
    append-nil (flat_map costs_of (rows ++ row ∷ [])) ∙ flat_map-append costs_of rows (row ∷ []) ∙
    ap (λ cs. flat_map costs_of rows ++ cs) (append-nil (costs_of row))

-- one more cost
pub kept_more : (n : ℕ) (rows : List Listing) (row : Listing) (c : ℤ) → IsKept n rows row → length rows < n →
    IsCost c → length row + 1 < n → IsKept n rows (row ++ (length row + 1, c) ∷ [])
kept_more n rows row c h room cost lt = record {
  size = h.size;
  few = h.few;
  full = h.full;
  no_gap = no_gap_push row c h.no_gap;
  short = let long : length (row ++ (length row + 1, c) ∷ []) ≡ length row + 1 = length-append row ((length row + 1, c) ∷ []) in omega arith;
  done = λ e. absurd (omega arith);
  costs = rw (costs_pushed rows row (length row + 1) c) (All-push IsCost (kept_costs rows row) c h.costs cost);
}

-- the last cost of a row
pub kept_full : (n : ℕ) (rows : List Listing) (row : Listing) (c : ℤ) → IsKept n rows row → length rows < n →
    IsCost c → length row + 1 ≡ n → IsKept n (rows ++ (row ++ (length row + 1, c) ∷ []) ∷ []) []
kept_full n rows row c h room cost e =
    let whole : Listing = row ++ (length row + 1, c) ∷ [] in
    record {
      size = h.size;
      few = let long : length (rows ++ whole ∷ []) ≡ length rows + 1 = length-append rows (whole ∷ []) in omega arith;
      full = All-push (IsFull n) rows whole h.full (record { no_gap = no_gap_push row c h.no_gap; count = length-append row ((length row + 1, c) ∷ []) ∙ e });
      no_gap = refl;
      short = h.size.some;
      done = λ _. refl;
      costs = rw (costs_moved rows whole, costs_pushed rows row (length row + 1) c) (All-push IsCost (kept_costs rows row) c h.costs cost);
    }

All-front : (xs ys : List ℤ) → All IsCost (xs ++ ys) → All IsCost xs
All-front xs ys h = rw (take-append_seam xs ys) at (All-take IsCost (length xs) (xs ++ ys) h)

-- a row is lost
pub kept_lost : (n : ℕ) (rows : List Listing) (row : Listing) → IsKept n rows row → IsKept n rows []
kept_lost n rows row h = record {
  size = h.size;
  few = h.few;
  full = h.full;
  no_gap = refl;
  short = h.size.some;
  done = λ _. refl;
  costs = rw (append-nil (flat_map costs_of rows)) (All-front (flat_map costs_of rows) (costs_of row) h.costs);
}

flat_length : (n : ℕ) (rows : List Listing) → All (IsFull n) rows → length (flat_map costs_of rows) ≡ length rows * n
flat_length n [] h = omega arith
flat_length n (r ∷ rows) h =
    let first : length (costs_of r) ≡ n = length-map r (λ e. e.1) ∙ (All-head (IsFull n) r rows h).count in
    let others = flat_length n rows (All-tail (IsFull n) r rows h) in
    let whole = length-append (costs_of r) (flat_map costs_of rows) in
    let times : suc (length rows) * n ≡ n + length rows * n = omega arith in
    whole ∙ omega arith

pub kept_length : (n : ℕ) (rows : List Listing) (row : Listing) → IsKept n rows row → length (kept_costs rows row) ≡ length rows * n + length row
kept_length n rows row h =
    let flat = flat_length n rows h.full in
    let last : length (costs_of row) ≡ length row = length-map row (λ e. e.1) in
    let whole = length-append (flat_map costs_of rows) (costs_of row) in
    omega arith

-- whole rows are those that are cut from their costs
pub rows_are_cut : (n : ℕ) (rows : List Listing) → All (IsFull n) rows → rows_cut n (length rows) (flat_map costs_of rows) ≡ rows
rows_are_cut n [] h = refl
rows_are_cut n (r ∷ rows) h =
    let full = All-head (IsFull n) r rows h in
    let long : length (costs_of r) ≡ n = length-map r (λ e. e.1) ∙ full.count in
    let front : take n (costs_of r ++ flat_map costs_of rows) ≡ costs_of r =
    ap (λ m. take m (costs_of r ++ flat_map costs_of rows)) (sym long) ∙ take-append_seam (costs_of r) (flat_map costs_of rows) in
    let back : drop n (costs_of r ++ flat_map costs_of rows) ≡ flat_map costs_of rows =
    ap (λ m. drop m (costs_of r ++ flat_map costs_of rows)) (sym long) ∙ drop-append_seam (costs_of r) (flat_map costs_of rows) in
    rw (front, back, ← full.no_gap) (ap (λ rs. r ∷ rs) (rows_are_cut n rows (All-tail (IsFull n) r rows h)))

-- the same for rows as they are kept
pub kept_moved : {V : Type 0} (f : V → Listing) (n : ℕ) (vs : List V) (v : V) (row : Listing) (k : ℕ) (c : ℤ) →
    IsKept n (map f vs) row → length vs < n → IsCost c → k ≡ length row →
    f v ≡ row ++ (k + 1, c) ∷ [] → length (f v) ≡ n → IsKept n (map f (vs ++ v ∷ [])) []
kept_moved f n vs v row k c h room cost at e whole =
    let same : length (map f vs) ≡ length vs = length-map vs f in
    let long : length (row ++ (k + 1, c) ∷ []) ≡ length row + 1 = length-append row ((k + 1, c) ∷ []) in
    let size = sym (ap length e) ∙ whole in
    let there : f v ≡ row ++ (length row + 1, c) ∷ [] = e ∙ ap (λ m. row ++ (m + 1, c) ∷ []) at in
    rw (map-append f vs (v ∷ []), there) (kept_full n (map f vs) row c h (omega arith) cost (omega arith))

pub kept_grown : (n : ℕ) (rows : List Listing) (row new : Listing) (k : ℕ) (c : ℤ) → IsKept n rows row → length rows < n → IsCost c → k ≡ length row →
    new ≡ row ++ (k + 1, c) ∷ [] → (length new ≡ n → ⊥) → IsKept n rows new
kept_grown n rows row new k c h room cost at e other =
    let long : length (row ++ (k + 1, c) ∷ []) ≡ length row + 1 = length-append row ((k + 1, c) ∷ []) in
    let size = ap length e in
    let short = h.short in
    let there : new ≡ row ++ (length row + 1, c) ∷ [] = e ∙ ap (λ m. row ++ (m + 1, c) ∷ []) at in
    rw there (kept_more n rows row c h room cost (omega arith))

-- a row is missing exactly where costs are missing
room_left : (n m k : ℕ) → m < n → k < n → m * n + k < n * n
room_left n m k lt short = let e : n ≡ (n - (m + 1)) + (m + 1) = omega arith in let more : (m + 1) * n ≤ n * n = rw e (omega arith) in omega arith

pub dense_count : (n : ℕ) (rows : List Listing) (row : Listing) → IsKept n rows row → length (kept_numbers n rows row) ≡ 1 + length rows * n + length row
dense_count n rows row h = let long = kept_length n rows row h in omega arith

pub dense_wants_cost : (n : ℕ) (rows : List Listing) (row : Listing) → IsKept n rows row → length rows < n →
    wanted_in Dense (kept_numbers n rows row) ≡ wanted.Cost
dense_wants_cost n rows row h lt =
    let long = kept_length n rows row h in
    let room = room_left n (length rows) (length row) lt h.short in
    cond-true (nat_lt (length (kept_costs rows row)) (n * n)) wanted.Cost wanted.Nothing (lt-ltb _ _ (omega arith))

pub dense_wants_nothing : (n : ℕ) (rows : List Listing) (row : Listing) → IsKept n rows row → n ≤ length rows →
    wanted_in Dense (kept_numbers n rows row) ≡ wanted.Nothing
dense_wants_nothing n rows row h le =
    let long = kept_length n rows row h in
    let few = h.few in
    let all : length rows ≡ n = omega arith in
    let full : length rows * n ≡ n * n = ap (λ m. m * n) all in
    cond-false (nat_lt (length (kept_costs rows row)) (n * n)) wanted.Cost wanted.Nothing (le-ltb _ _ (omega arith))

-- what is expected, by the test for full rows
pub dense_wants : (n : ℕ) (rows : List Listing) (row : Listing) (numbers : List ℤ) → IsKept n rows row →
    kept_numbers n rows row ≡ numbers → wanted_in Dense numbers ≡ cond (nat_le n (length rows))
    wanted.Nothing wanted.Cost
dense_wants n rows row numbers h shown = ap (wanted_in Dense) (sym shown) ∙ elim (cases_Bool (nat_le n (length rows))) [
  | inl full ↦ dense_wants_nothing n rows row h (leb-true _ _ full) ∙ sym (cond-true (nat_le n (length rows)) wanted.Nothing wanted.Cost full)
  | inr open_yet ↦ dense_wants_cost n rows row h (leb-false _ _ open_yet) ∙ sym (cond-false (nat_le n (length rows)) wanted.Nothing wanted.Cost open_yet)
]

-- where a cost is expected, a row is missing
pub dense_room : (n : ℕ) (rows : List Listing) (row : Listing) (numbers : List ℤ) → IsKept n rows row →
    kept_numbers n rows row ≡ numbers → wanted_in Dense numbers ≡ wanted.Cost → length rows < n
dense_room n rows row numbers h shown w = elim (cases_Bool (nat_lt (length rows) n)) [
  | inl lt ↦ ltb-true _ _ lt
  | inr le ↦ absurd (let no : wanted.Nothing ≡ wanted.Cost = sym (dense_wants_nothing n rows row h (ltb-false _ _ le)) ∙ ap (wanted_in Dense) shown ∙ w in cc)
]

pub dense_truncated : (n : ℕ) (rows : List Listing) (row : Listing) → IsKept n rows row → length rows < n →
    ended Dense (kept_numbers n rows row) ≡ Err (faults.Truncated (length (kept_numbers n rows row)))
dense_truncated n rows row h lt =
    let long = kept_length n rows row h in
    let room = room_left n (length rows) (length row) lt h.short in
    cond-false (nat_eq (length (kept_costs rows row)) (n * n)) _ _ (ne_eqb _ _ (omega arith))

pub dense_whole : (n : ℕ) (rows : List Listing) (row : Listing) → IsKept n rows row → n ≤ length rows →
    (ended Dense (kept_numbers n rows row) ≡ Ok (kept_numbers n rows row)) × (dense_problem (kept_numbers n rows row) ≡ rows) × IsProblem rows
dense_whole n rows row h le =
    let long = kept_length n rows row h in
    let few = h.few in
    let all : length rows ≡ n = omega arith in
    let full : length rows * n ≡ n * n = ap (λ m. m * n) all in
    let none = h.done all in
    let flat : flat_map costs_of rows ≡ kept_costs rows row = sym (ap (kept_costs rows) none ∙ append-nil (flat_map costs_of rows)) in
    let last = ap length none in
    let whole : length (kept_costs rows row) ≡ n * n = omega arith in
    let cut : dense_rows n (kept_costs rows row) ≡ rows = sym (ap (λ m. rows_cut n m (kept_costs rows row)) all ∙
    refl) ∙ sym (ap (rows_cut n (length rows)) flat) ∙ rows_are_cut n rows h.full in (
      cond-true (nat_eq (length (kept_costs rows row)) (n * n)) _ _ (eq-eqb _ _ whole),
      cut,
      subst IsProblem cut (IsProblem-dense n (kept_costs rows row) h.size whole h.costs),
    )

-- the fault at the end of a text that lacks costs
pub dense_short : (n : ℕ) (rows : List Listing) (row : Listing) (numbers : List ℤ) (count : ℕ) → IsKept n rows row →
    length rows < n → kept_numbers n rows row ≡ numbers → count ≡ length numbers →
    ended Dense numbers ≡ Err (faults.Truncated count)
dense_short n rows row numbers count h lt v k =
    ap (ended Dense) (sym v) ∙ dense_truncated n rows row h lt ∙ ap (λ m. Err (faults.Truncated m)) (ap length v ∙ sym k)

-- the problem at the end of a text that has all costs
pub dense_done : (n : ℕ) (rows : List Listing) (row : Listing) (numbers : List ℤ) (new : List Listing) →
    IsKept n rows row → n ≤ length rows → kept_numbers n rows row ≡ numbers →
    new ≡ rows → Meets Dense (Ok new) (ended Dense numbers)
dense_done n rows row numbers new h le v e =
    let all = dense_whole n rows row h le in
    rw (ap (ended Dense) (sym v) ∙ all.0) (all.1 ∙ sym e)
