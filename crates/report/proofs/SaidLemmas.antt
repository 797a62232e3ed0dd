-- What lines say, and a report's lines.
use Rattle.std.proofs.Common.{◌≡◌, ℕ, ℤ, ◌<◌, ◌≤◌, ◌+◌, List, [], ◌∷◌, ◌++◌, true, eqb, leb, ltb, Option, Some}
use Rattle.std.proofs.Common.{None, length, refl, sym, ap, subst, ◌∙◌, arith, append_assoc, append-nil}
use Rattle.std.specs.List.{AllByRecursion}
use Rattle.std.proofs.lemmas.Bool.{eqb-true, eq-eqb, lt-ltb, ltb-true, le-leb}
use Rattle.std.proofs.lemmas.Option.{cond_some}
use Rattle.std.proofs.lemmas.List.{length-append}
use Rattle.assign_core.specs.declared.numbers.TheConstants.{MOST_PERSONS}
use Rattle.assign_core.specs.declared.sense.Sense.{Sense}
use Rattle.report.specs.Reports.{Report, best, hall, is_total, is_price, is_entry, ArePrices, IsHallReport, IsReport}
use Rattle.report.specs.Lines.{Line, cost_line, assign_line, price_line, sense_lines, assign_lines, price_lines, lines_of_prices, report_lines}
use Rattle.report.specs.Order.{Draft, nothing, with_rows, with_prices, with_objects, follow, finish, and_follow, follow_all, said_by, with_cost}
use Rattle.report.specs.inside.Reading.{IsInRange}
use Rattle.report.proofs.OrderLemmas.{draft_lines, IsDraft, follow_adds}

pub follow_none : (lines : List Line) → follow_all None lines ≡ None
follow_none [] = refl
follow_none (line ∷ lines) = follow_none lines

pub follow-append : (d : Option Draft) (xs ys : List Line) → follow_all d (xs ++ ys) ≡ follow_all (follow_all d xs) ys
follow-append d [] ys = refl
follow-append d (x ∷ xs) ys = follow-append (and_follow d x) xs ys

-- ---- what was said was in these lines

abbrev pub Said : Draft → List Line → Draft → Type 0
Said first lines d = (draft_lines d ≡ draft_lines first ++ lines) × IsDraft d × AllByRecursion IsInRange lines

said_next : (first : Draft) (line : Line) (lines : List Line) (d : Draft) (o : Option Draft) → IsDraft first →
    follow first line ≡ o → follow_all o lines ≡ Some d
    → ((next : Draft) → IsDraft next → follow_all (Some next) lines ≡ Some d → Said next lines d) → Said first (line ∷ lines) d
said_next first line lines d None h f e again = absurd (cc (follow_none lines))
said_next first line lines d (Some next) h f e again =
    let a = follow_adds first line next h f in
    let s = again next a.1 e in
    (s.0 ∙ ap (λ ls. ls ++ lines) a.0 ∙ append_assoc (draft_lines first) (line ∷ []) lines, s.1, (a.2, s.2))

pub said_all : (first : Draft) (lines : List Line) (d : Draft) → IsDraft first → follow_all (Some first) lines ≡ Some d → Said first lines d
said_all first [] d h e = let is : first ≡ d = cc in subst (Said first []) is (sym (append-nil (draft_lines first)), h, tt)
said_all first (line ∷ lines) d h e = said_next first line lines d (follow first line) h refl e (λ next k f. said_all next lines d k f)

-- ---- a draft that may end is a report

pub finish_takes : (d : Draft) (r : Report) → IsDraft d → finish d ≡ Some r → (report_lines r ≡ draft_lines d) × IsReport r
finish_takes (with_rows s c rows) r h e =
    let t = cond_some (ltb 0 (length rows)) (best s c rows None) r e in
    subst (λ (r : Report). (report_lines r ≡ draft_lines (with_rows s c rows)) × IsReport r) t.1 (
      ap (λ (ls : List Line). sense_lines s ++ cost_line c ∷ ls) (append-nil (assign_lines 1 rows)),
      record { total = h.0; some = ltb-true 0 (length rows) t.0; few = h.1; each = h.2; priced = tt },
    )
finish_takes (with_prices s c rows prices) r h e =
    let t = cond_some (eqb (length prices) (length rows)) (best s c rows (Some prices)) r e in
    let same = eqb-true (length prices) (length rows) t.0 in
    subst (λ (r : Report). (report_lines r ≡ draft_lines (with_prices s c rows prices)) × IsReport r) t.1
    (refl, record { total = h.0; some = omega (arith, h.3, h.4); few = h.1; each = h.2; priced = (same, h.5) })
finish_takes (with_objects s persons objects) r h e = let is : hall s persons objects ≡ r =
    cc in subst (λ (r : Report). (report_lines r ≡ draft_lines (with_objects s persons objects)) × IsReport r) is
    (refl, h)
finish_takes d r h e = absurd cc

-- ---- a report's lines say it

rows_said : (s : Option Sense) (c : ℤ) (front rows : List (ℕ × ℤ)) (i : ℕ) → i ≡ length front + 1 →
    length front + length rows ≤ MOST_PERSONS → AllByRecursion (λ e. is_entry s e ≡ true) rows
    → follow_all (Some (with_rows s c front)) (assign_lines i rows) ≡ Some (with_rows s c (front ++ rows))
rows_said s c front [] i e l h = ap (λ xs. Some (with_rows s c xs)) (sym (append-nil front))
rows_said s c front (r ∷ rows) i e l h =
    let place : eqb i (length front + 1) ≡ true = eq-eqb i (length front + 1) e in
    let low : leb i MOST_PERSONS ≡ true = le-leb i MOST_PERSONS (omega arith) in
    let here : follow (with_rows s c front) (assign_line i r.0 r.1) ≡ Some (with_rows s c (front ++ r ∷ [])) = rw (place, low, h.0) refl in
    let long : length (front ++ r ∷ []) ≡ length front + 1 = length-append front (r ∷ []) in
    ap (λ d. follow_all d (assign_lines (i + 1) rows)) here ∙ rows_said s c (front ++ r ∷ []) rows (i + 1)
    (omega arith) (omega arith) h.1 ∙ ap (λ xs. Some (with_rows s c xs)) (append_assoc front (r ∷ []) rows)

prices_said : (s : Option Sense) (c : ℤ) (rows : List (ℕ × ℤ)) (front prices : List ℤ) (j : ℕ) →
    j ≡ length front + 1 → length front + length prices ≤ length rows → AllByRecursion (λ p. is_price s p ≡ true) prices
    → follow_all (Some (with_prices s c rows front)) (price_lines j prices) ≡ Some (with_prices s c rows (front ++ prices))
prices_said s c rows front [] j e l h = ap (λ xs. Some (with_prices s c rows xs)) (sym (append-nil front))
prices_said s c rows front (p ∷ prices) j e l h =
    let place : eqb j (length front + 1) ≡ true = eq-eqb j (length front + 1) e in
    let room : ltb (length front) (length rows) ≡ true = lt-ltb (length front) (length rows) (omega arith) in
    let here : follow (with_prices s c rows front) (price_line j p) ≡ Some (with_prices s c rows (front ++ p ∷ [])) = rw (place, room, h.0) refl in
    let long : length (front ++ p ∷ []) ≡ length front + 1 = length-append front (p ∷ []) in
    ap (λ d. follow_all d (price_lines (j + 1) prices)) here ∙ prices_said s c rows (front ++ p ∷ []) prices (j + 1)
    (omega arith) (omega arith) h.1 ∙ ap (λ xs. Some (with_prices s c rows xs)) (append_assoc front (p ∷ []) prices)

-- the price lines after the rows, and the end
abbrev Ends : Report → Option Draft → Type 0
Ends r said = (d : Draft) × (said ≡ Some d) × (finish d ≡ Some r)

all_prices_said : (s : Option Sense) (c : ℤ) (rows : List (ℕ × ℤ)) (prices : Option (List ℤ)) → 0 < length rows → ArePrices s (length rows) prices
    → Ends (best s c rows prices) (follow_all (Some (with_rows s c rows)) (lines_of_prices prices))
all_prices_said s c rows None some h = (with_rows s c rows, refl, rw (lt-ltb 0 (length rows) some) refl)
all_prices_said s c rows (Some []) some h = absurd (omega (arith, h.0))
all_prices_said s c rows (Some (p ∷ prices)) some h =
    let here : follow (with_rows s c rows) (price_line 1 p) ≡ Some (with_prices s c rows (p ∷ [])) = rw (lt-ltb 0 (length rows) some, h.1.0) refl in
    let rest = ap (λ d. follow_all d (price_lines 2 prices)) here ∙ prices_said s c rows (p ∷ []) prices 2 (omega arith) (omega (arith, h.0)) h.1.1 in
    (with_prices s c rows (p ∷ prices), rest, rw (eq-eqb (length (p ∷ prices)) (length rows) h.0) refl)

cost_said : (s : Option Sense) (c : ℤ) → is_total s c ≡ true → with_cost s c ≡ Some (with_rows s c [])
cost_said s c h = rw h refl

-- the sense line, if there is one, and the line after it
sense_said : (s : Option Sense) (c : ℤ) (lines : List Line) → is_total s c ≡ true →
    follow_all (Some nothing) (sense_lines s ++ cost_line c ∷ lines) ≡ follow_all (Some (with_rows s c [])) lines
sense_said None c lines h = ap (λ d. follow_all d lines) (cost_said None c h)
sense_said (Some s) c lines h = ap (λ d. follow_all d lines) (cost_said (Some s) c h)

hall_said : (s : Option Sense) (persons objects : List ℕ) → IsHallReport persons objects →
    follow_all (Some nothing) (report_lines (hall s persons objects)) ≡ Some (with_objects s persons objects)
hall_said None persons objects h = rw (lt-ltb 0 (length persons) h.some, h.persons_rise) (rw h.objects_rise refl)
hall_said (Some s) persons objects h = rw (lt-ltb 0 (length persons) h.some, h.persons_rise) (rw h.objects_rise refl)

pub report_said : (r : Report) → IsReport r → (d : Draft) × (said_by (report_lines r) ≡ Some d) × (finish d ≡ Some r)
report_said (best s c rows prices) h =
    let all = all_prices_said s c rows prices h.some h.priced in
    let said = sense_said s c (assign_lines 1 rows ++ lines_of_prices prices) h.total
    ∙ follow-append (Some (with_rows s c [])) (assign_lines 1 rows) (lines_of_prices prices)
    ∙ ap (λ d. follow_all d (lines_of_prices prices)) (rows_said s c [] rows 1 (omega arith) (omega (arith, h.few)) h.each) ∙ all.1 in
    (all.0, said, all.2)
report_said (hall s persons objects) h = (with_objects s persons objects, hall_said s persons objects h, refl)
