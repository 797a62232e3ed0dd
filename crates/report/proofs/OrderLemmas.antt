-- Drafts and their lines.
use Rattle.std.proofs.Common.{◌≡◌, ℕ, ℤ, pos, negsuc, nat_abs, suc, ◌<◌, ◌≤◌, ◌+◌, List, [], ◌∷◌, ◌++◌, true, eqb}
use Rattle.std.proofs.Common.{leb, ltb, ◌&&◌, Option, Some, None, length, refl, sym, ap, subst, ◌∙◌, arith}
use Rattle.std.proofs.Common.{append_assoc}
use Rattle.std.specs.List.{AllByRecursion}
use Rattle.std.proofs.lemmas.Bool.{eqb-true, lt-ltb, ltb-true, leb-true, and_parts}
use Rattle.std.proofs.lemmas.List.{length_push}
use Rattle.std.proofs.lemmas.Option.{cond_some}
use Rattle.assign_core.specs.declared.numbers.TheConstants.{MOST_PERSONS}
use Rattle.assign_core.specs.declared.sense.Sense.{Sense}
use Rattle.report.specs.Reports.{cost_limit, total_limit, price_end, is_cost, is_total, is_price, is_rising, is_entry, IsHallReport}
use Rattle.report.specs.Lines.{Line, sense_line, cost_line, assign_line, price_line, infeasible_line, persons_line}
use Rattle.report.specs.Lines.{objects_line, sense_lines, assign_lines, price_lines}
use Rattle.report.specs.Order.{Draft, nothing, with_sense, with_rows, with_prices, infeasible, with_persons, with_objects, with_cost, follow}
use Rattle.report.specs.inside.Numerals.{widest_cost}
use Rattle.report.specs.inside.Reading.{IsInRange}
use Rattle.report.proofs.Elements.{all-append}

-- ---- ranges

pub total_wide : (s : Option Sense) (c : ℤ) → is_total s c ≡ true → nat_abs c ≤ widest_cost
total_wide None c e = omega (arith, leb-true (nat_abs c) (total_limit None) e)
total_wide (Some s) c e = omega (arith, leb-true (nat_abs c) (total_limit (Some s)) e)

cost_wide : (s : Option Sense) (c : ℤ) → is_cost s c ≡ true → nat_abs c ≤ widest_cost
cost_wide None c e = omega (arith, leb-true (nat_abs c) (cost_limit None) e)
cost_wide (Some s) c e = omega (arith, leb-true (nat_abs c) (cost_limit (Some s)) e)

entry_wide : (s : Option Sense) (j : ℕ) (c : ℤ) → is_entry s (j, c) ≡ true → (j ≤ MOST_PERSONS) × (nat_abs c ≤ widest_cost)
entry_wide s j c e =
    let a = and_parts (ltb 0 j && leb j MOST_PERSONS) (is_cost s c) e in
    let b = and_parts (ltb 0 j) (leb j MOST_PERSONS) a.0 in
    (leb-true j MOST_PERSONS b.1, cost_wide s c a.1)

price_in_range : (s : Option Sense) (j : ℕ) (p : ℤ) → j ≤ MOST_PERSONS → is_price s p ≡ true → IsInRange (price_line j p)
price_in_range None j (pos p) l e = (l, omega (arith, ltb-true p (price_end None) e))
price_in_range (Some s) j (pos p) l e = (l, omega (arith, ltb-true p (price_end (Some s)) e))
price_in_range s j (negsuc p) l e = absurd cc

-- ---- the lines of a draft

abbrev pub draft_lines : Draft → List Line
draft_lines nothing = []
draft_lines (with_sense s) = sense_line s ∷ []
draft_lines (with_rows s c rows) = sense_lines s ++ cost_line c ∷ assign_lines 1 rows
draft_lines (with_prices s c rows prices) = sense_lines s ++ cost_line c ∷ (assign_lines 1 rows ++ price_lines 1 prices)
draft_lines (infeasible s) = sense_lines s ++ infeasible_line ∷ []
draft_lines (with_persons s persons) = sense_lines s ++ infeasible_line ∷ persons_line persons ∷ []
draft_lines (with_objects s persons objects) = sense_lines s ++ infeasible_line ∷ persons_line persons ∷ objects_line objects ∷ []

abbrev pub IsDraft : Draft → Type 0
IsDraft nothing = Unit {0}
IsDraft (with_sense s) = Unit {0}
IsDraft (with_rows s c rows) = (is_total s c ≡ true) × (length rows ≤ MOST_PERSONS) × AllByRecursion (λ e. is_entry s e ≡ true) rows
IsDraft (with_prices s c rows prices) = (is_total s c ≡ true) × (length rows ≤ MOST_PERSONS) ×
    AllByRecursion (λ e. is_entry s e ≡ true) rows × (0 < length prices) × (length prices ≤ length rows) ×
    AllByRecursion (λ p. is_price s p ≡ true) prices
IsDraft (infeasible s) = Unit {0}
IsDraft (with_persons s persons) = (0 < length persons) × (is_rising 0 persons ≡ true)
IsDraft (with_objects s persons objects) = IsHallReport persons objects

abbrev pub Adds : Draft → Line → Draft → Type 0
Adds d line next = (draft_lines next ≡ draft_lines d ++ line ∷ []) × IsDraft next × IsInRange line

assign_push : (i : ℕ) (rows : List (ℕ × ℤ)) (j : ℕ) (c : ℤ) → assign_lines i (rows ++ (j, c) ∷ [])
    ≡ assign_lines i rows ++ assign_line (i + length rows) j c ∷ []
assign_push i [] j c = let e : i ≡ i + 0 = omega arith in ap (λ k. assign_line k j c ∷ []) e
assign_push i (r ∷ rows) j c =
    let e : i + 1 + length rows ≡ i + suc (length rows) = omega arith in
    ap (λ (ls : List Line). assign_line i r.0 r.1 ∷ ls) (assign_push (i + 1) rows j c ∙ ap (λ k. assign_lines (i + 1) rows ++ assign_line k j c ∷ []) e)

price_push : (j : ℕ) (prices : List ℤ) (p : ℤ) → price_lines j (prices ++ p ∷ []) ≡ price_lines j prices ++ price_line (j + length prices) p ∷ []
price_push j [] p = let e : j ≡ j + 0 = omega arith in ap (λ k. price_line k p ∷ []) e
price_push j (q ∷ prices) p =
    let e : j + 1 + length prices ≡ j + suc (length prices) = omega arith in
    ap (λ (ls : List Line). price_line j q ∷ ls) (price_push (j + 1) prices p ∙ ap (λ k. price_lines (j + 1) prices ++ price_line k p ∷ []) e)

cost_adds : (s : Option Sense) (c : ℤ) (d next : Draft) → draft_lines d ≡ sense_lines s → with_cost s c ≡ Some next → Adds d (cost_line c) next
cost_adds s c d next l e =
    let t = cond_some (is_total s c) (with_rows s c []) next e in
    subst (Adds d (cost_line c)) t.1 (ap (λ ls. ls ++ cost_line c ∷ []) (sym l), (t.0, omega arith, tt), total_wide s c t.0)

row_adds : (s : Option Sense) (cost : ℤ) (rows : List (ℕ × ℤ)) (i j : ℕ) (c : ℤ) (next : Draft) →
    IsDraft (with_rows s cost rows) → follow (with_rows s cost rows) (assign_line i j c) ≡ Some next
    → Adds (with_rows s cost rows) (assign_line i j c) next
row_adds s cost rows i j c next h e =
    let t = cond_some (((eqb i (length rows + 1)) && leb i MOST_PERSONS) && is_entry s (j, c)) (with_rows s cost (rows ++ (j, c) ∷ [])) next e in
    let a = and_parts ((eqb i (length rows + 1)) && leb i MOST_PERSONS) (is_entry s (j, c)) t.0 in
    let b = and_parts (eqb i (length rows + 1)) (leb i MOST_PERSONS) a.0 in
    let place = eqb-true i (length rows + 1) b.0 in
    let low = leb-true i MOST_PERSONS b.1 in
    let entry = entry_wide s j c a.1 in
    let number : 1 + length rows ≡ i = omega arith in
    let more : assign_lines 1 (rows ++ (j, c) ∷ []) ≡ assign_lines 1 rows ++ assign_line i j c ∷ [] =
    assign_push 1 rows j c ∙ ap (λ k. assign_lines 1 rows ++ assign_line k j c ∷ []) number in
    let lines : sense_lines s ++ cost_line cost ∷ assign_lines 1 (rows ++ (j, c) ∷ []) ≡
    (sense_lines s ++ cost_line cost ∷ assign_lines 1 rows) ++ assign_line i j c ∷ [] =
    ap (λ (ls : List Line). sense_lines s ++ cost_line cost ∷ ls) more ∙
    sym (append_assoc (sense_lines s) (cost_line cost ∷ assign_lines 1 rows) (assign_line i j c ∷ [])) in
    subst (Adds (with_rows s cost rows) (assign_line i j c)) t.1 (
      lines,
      (
        h.0,
        omega (arith, length_push rows (j, c)),
        all-append (λ e. is_entry s e ≡ true) rows ((j, c) ∷ []) h.2
            (a.1, tt),
      ),
      (low, entry.0, entry.1),
    )

first_price_adds : (s : Option Sense) (cost : ℤ) (rows : List (ℕ × ℤ)) (j : ℕ) (p : ℤ) (next : Draft) →
    IsDraft (with_rows s cost rows) → follow (with_rows s cost rows) (price_line j p) ≡ Some next
    → Adds (with_rows s cost rows) (price_line j p) next
first_price_adds s cost rows j p next h e =
    let t = cond_some (((eqb j 1) && ltb 0 (length rows)) && is_price s p) (with_prices s cost rows (p ∷ [])) next e in
    let a = and_parts ((eqb j 1) && ltb 0 (length rows)) (is_price s p) t.0 in
    let b = and_parts (eqb j 1) (ltb 0 (length rows)) a.0 in
    let one = eqb-true j 1 b.0 in
    let some = ltb-true 0 (length rows) b.1 in
    let lines : sense_lines s ++ cost_line cost ∷ (assign_lines 1 rows ++ price_lines 1 (p ∷ [])) ≡
    (sense_lines s ++ cost_line cost ∷ assign_lines 1 rows) ++ price_line j p ∷ [] =
    ap (λ k. sense_lines s ++ cost_line cost ∷ (assign_lines 1 rows ++ price_line k p ∷ [])) (sym one) ∙
    sym (append_assoc (sense_lines s) (cost_line cost ∷ assign_lines 1 rows) (price_line j p ∷ [])) in
    subst (Adds (with_rows s cost rows) (price_line j p)) t.1 (
      lines,
      (
        h.0,
        h.1,
        h.2,
        omega arith,
        omega arith,
        (a.1, tt),
      ),
      price_in_range s j p (omega arith) a.1,
    )

price_adds : (s : Option Sense) (cost : ℤ) (rows : List (ℕ × ℤ)) (prices : List ℤ) (j : ℕ) (p : ℤ) (next : Draft) → IsDraft (with_prices s cost rows prices)
    → follow (with_prices s cost rows prices) (price_line j p) ≡ Some next → Adds (with_prices s cost rows prices) (price_line j p) next
price_adds s cost rows prices j p next h e =
    let t = cond_some (((eqb j (length prices + 1)) && ltb (length prices) (length rows)) && is_price s p)
    (with_prices s cost rows (prices ++ p ∷ [])) next e in
    let a = and_parts ((eqb j (length prices + 1)) && ltb (length prices) (length rows)) (is_price s p) t.0 in
    let b = and_parts (eqb j (length prices + 1)) (ltb (length prices) (length rows)) a.0 in
    let place = eqb-true j (length prices + 1) b.0 in
    let room = ltb-true (length prices) (length rows) b.1 in
    let number : 1 + length prices ≡ j = omega arith in
    let front = sense_lines s ++ cost_line cost ∷ assign_lines 1 rows in
    let more : price_lines 1 (prices ++ p ∷ []) ≡ price_lines 1 prices ++ price_line j p ∷ [] =
    price_push 1 prices p ∙ ap (λ k. price_lines 1 prices ++ price_line k p ∷ []) number in
    let lines : sense_lines s ++ cost_line cost ∷ (assign_lines 1 rows ++ price_lines 1 (prices ++ p ∷ [])) ≡
    (sense_lines s ++ cost_line cost ∷ (assign_lines 1 rows ++ price_lines 1 prices)) ++ price_line j p ∷ [] =
    ap (λ (ls : List Line). sense_lines s ++ cost_line cost ∷ (assign_lines 1 rows ++ ls)) more
    ∙ ap (λ (ls : List Line). sense_lines s ++ cost_line cost ∷ ls) (sym (append_assoc (assign_lines 1 rows) (price_lines 1 prices) (price_line j p ∷ [])))
    ∙ sym (append_assoc (sense_lines s) (cost_line cost ∷ (assign_lines 1 rows ++ price_lines 1 prices)) (price_line j p ∷ [])) in
    subst (Adds (with_prices s cost rows prices) (price_line j p)) t.1 (
      lines,
      (
        h.0,
        h.1,
        h.2,
        omega (arith, length_push prices p),
        omega (arith, length_push prices p),
        all-append (λ p. is_price s p ≡ true) prices (p ∷ []) h.5 (a.1, tt),
      ),
      price_in_range s j p (omega (arith, h.1)) a.1,
    )

-- the draft after one more line
pub follow_adds : (d : Draft) (line : Line) (next : Draft) → IsDraft d → follow d line ≡ Some next → Adds d line next
follow_adds nothing (sense_line s) next h e = let is : with_sense s ≡ next = cc in subst (Adds nothing (sense_line s)) is (refl, tt, tt)
follow_adds nothing (cost_line c) next h e = cost_adds None c nothing next refl e
follow_adds nothing infeasible_line next h e = let is : infeasible None ≡ next = cc in subst (Adds nothing infeasible_line) is (refl, tt, tt)
follow_adds (with_sense s) (cost_line c) next h e = cost_adds (Some s) c (with_sense s) next refl e
follow_adds (with_sense s) infeasible_line next h e = let is : infeasible (Some s) ≡ next = cc in subst (Adds (with_sense s) infeasible_line) is (refl, tt, tt)
follow_adds (with_rows s cost rows) (assign_line i j c) next h e = row_adds s cost rows i j c next h e
follow_adds (with_rows s cost rows) (price_line j p) next h e = first_price_adds s cost rows j p next h e
follow_adds (with_prices s cost rows prices) (price_line j p) next h e = price_adds s cost rows prices j p next h e
follow_adds (infeasible s) (persons_line xs) next h e =
    let t = cond_some (ltb 0 (length xs) && is_rising 0 xs) (with_persons s xs) next e in
    let a = and_parts (ltb 0 (length xs)) (is_rising 0 xs) t.0 in
    subst (Adds (infeasible s) (persons_line xs)) t.1 (
      sym (append_assoc (sense_lines s) (infeasible_line ∷ [])
          (persons_line xs ∷ [])),
      (ltb-true 0 (length xs) a.0, a.1),
      a.1,
    )
follow_adds (with_persons s persons) (objects_line xs) next h e =
    let t = cond_some (is_rising 0 xs) (with_objects s persons xs) next e in
    subst (Adds (with_persons s persons) (objects_line xs)) t.1 (
      sym (append_assoc (sense_lines s) (infeasible_line ∷ persons_line persons ∷ []) (objects_line xs ∷ [])),
      record { some = h.0; persons_rise = h.1; objects_rise = t.0 },
      t.0,
    )
follow_adds d line next h e = absurd cc

pub persons_follow : (s : Option Sense) (line : Line) (xs : List ℕ) → line ≡ persons_line xs → IsInRange line →
    0 < length xs → Some (with_persons s xs) ≡ follow (infeasible s) line
persons_follow s line xs e h some =
    let rise : is_rising 0 xs ≡ true = subst IsInRange e h in
    sym (ap (follow (infeasible s)) e ∙ rw (lt-ltb 0 (length xs) some, rise) refl)

pub objects_follow : (s : Option Sense) (persons : List ℕ) (line : Line) (xs : List ℕ) → line ≡ objects_line xs →
    IsInRange line → Some (with_objects s persons xs) ≡ follow (with_persons s persons) line
objects_follow s persons line xs e h =
    let rise : is_rising 0 xs ≡ true = subst IsInRange e h in
    sym (ap (follow (with_persons s persons)) e ∙ rw rise refl)
