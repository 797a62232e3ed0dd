-- Lines that may stand at the start of a text are those with which some report begins.
use Rattle.std.proofs.Common.{◌≡◌, ℕ, ℤ, pos, suc, true, ◌+◌, ◌-◌, List, [], ◌∷◌, ◌++◌, Option, Some, None, length}
use Rattle.std.proofs.Common.{refl, sym, ap, ◌∙◌, arith, append_assoc, append-nil, length-append}
use Rattle.std.specs.List.{AllByRecursion}
use Rattle.std.proofs.Math.ListN.{replicate}
use Rattle.std.proofs.lemmas.List.{length-replicate}
use Rattle.std.proofs.lemmas.List.Elements.{All-replicate, recursion_from_All}
use Rattle.assign_core.specs.declared.sense.Sense.{Sense}
use Rattle.report.specs.Reports.{Report, best, hall, is_entry, is_price, IsReport, IsHallReport}
use Rattle.report.specs.Lines.{Line, cost_line, assign_line, price_line, infeasible_line, persons_line}
use Rattle.report.specs.Lines.{objects_line, sense_lines, assign_lines, price_lines, report_lines}
use Rattle.report.specs.Order.{Draft, nothing, with_sense, with_rows, with_prices, infeasible, with_persons, with_objects, finish, follow_all, said_by}
use Rattle.report.specs.Answers.{BeginsReport}
use Rattle.report.proofs.Elements.{all-append}
use Rattle.report.proofs.OrderLemmas.{IsDraft, draft_lines}
use Rattle.report.proofs.SaidLemmas.{follow-append, follow_none, said_all, report_said}

-- ---- each draft goes on to a report

one_person : IsHallReport (1 ∷ []) []
one_person = record { some = omega arith; persons_rise = refl; objects_rise = refl }

one_row : (s : Option Sense) → is_entry s (1, pos 0) ≡ true
one_row None = refl
one_row (Some s) = refl

abbrev zeros : ℕ → List ℤ
zeros n = replicate n (pos 0)

some_price : (s : Option Sense) → is_price s (pos 0) ≡ true
some_price None = refl
some_price (Some s) = refl

zeros_price : (s : Option Sense) (n : ℕ) → AllByRecursion (λ p. is_price s p ≡ true) (zeros n)
zeros_price s n = let P : ℤ → Type 0 = λ p. is_price s p ≡ true in recursion_from_All P (zeros n) (All-replicate P n (pos 0) (some_price s))

prices-append : (j : ℕ) (xs ys : List ℤ) → price_lines j (xs ++ ys) ≡ price_lines j xs ++ price_lines (j + length xs) ys
prices-append j [] ys = let e : j ≡ j + 0 = omega arith in ap (λ k. price_lines k ys) e
prices-append j (x ∷ xs) ys =
    let e : j + 1 + length xs ≡ j + suc (length xs) = omega arith in
    ap (λ (ls : List Line). price_line j x ∷ ls) (prices-append (j + 1) xs ys ∙ ap (λ k. price_lines (j + 1) xs ++ price_lines k ys) e)

prices_begin : (s : Option Sense) (c : ℤ) (rows : List (ℕ × ℤ)) (prices more : List ℤ) → report_lines (best s c rows (Some (prices ++ more)))
    ≡ draft_lines (with_prices s c rows prices) ++ price_lines (1 + length prices) more
prices_begin s c rows prices more =
    ap (λ (ls : List Line). sense_lines s ++ cost_line c ∷ (assign_lines 1 rows ++ ls)) (prices-append 1 prices more)
    ∙ ap (λ (ls : List Line). sense_lines s ++ cost_line c ∷ ls)
    (sym (append_assoc (assign_lines 1 rows) (price_lines 1 prices) (price_lines (1 + length prices) more)))
    ∙ sym (append_assoc (sense_lines s) (cost_line c ∷ (assign_lines 1 rows ++ price_lines 1 prices)) (price_lines (1 + length prices) more))

goes_on : (d : Draft) → IsDraft d → BeginsReport (draft_lines d)
goes_on nothing h = (hall None (1 ∷ []) [], report_lines (hall None (1 ∷ []) []), one_person, refl)
goes_on (with_sense s) h = (hall (Some s) (1 ∷ []) [], infeasible_line ∷ persons_line (1 ∷ []) ∷ objects_line [] ∷ [], one_person, refl)
goes_on (with_rows s c []) h = (
  best s c ((1, pos 0) ∷ []) None,
  assign_line 1 1 (pos 0) ∷ [],
  record { total = h.0; some = omega arith; few = omega arith; each = (one_row s, tt); priced = tt },
  sym (append_assoc (sense_lines s) (cost_line c ∷ []) (assign_line 1 1 (pos 0) ∷ [])),
)
goes_on (with_rows s c (r ∷ rows)) h = (
  best s c (r ∷ rows) None,
  [],
  record { total = h.0; some = omega arith; few = h.1; each = h.2; priced = tt },
  ap (λ (ls : List Line). sense_lines s ++ cost_line c ∷ ls) (append-nil (assign_lines 1 (r ∷ rows))) ∙
      sym (append-nil (sense_lines s ++ cost_line c ∷ assign_lines 1 (r ∷ rows))),
)
goes_on (with_prices s c rows prices) h =
    let left = length rows - length prices in
    let long : length (prices ++ zeros left) ≡ length rows = omega (arith, h.4, length-append prices (zeros left), length-replicate left (pos 0)) in (
      best s c rows (Some (prices ++ zeros left)),
      price_lines (1 + length prices) (zeros left),
      record {
        total = h.0;
        some = omega (arith, h.3, h.4);
        few = h.1;
        each = h.2;
        priced =
            (long, all-append (λ p. is_price s p ≡ true) prices (zeros left) h.5 (zeros_price s left));
      },
      prices_begin s c rows prices (zeros left),
    )
goes_on (infeasible s) h = (
  hall s (1 ∷ []) [],
  persons_line (1 ∷ []) ∷ objects_line [] ∷ [],
  one_person,
  sym (append_assoc (sense_lines s) (infeasible_line ∷ []) (persons_line (1 ∷ []) ∷ objects_line [] ∷ [])),
)
goes_on (with_persons s persons) h = (
  hall s persons [],
  objects_line [] ∷ [],
  record { some = h.0; persons_rise = h.1; objects_rise = refl },
  sym (append_assoc (sense_lines s) (infeasible_line ∷ persons_line persons ∷ []) (objects_line [] ∷ [])),
)
goes_on (with_objects s persons objects) h = (hall s persons objects, [], h, sym (append-nil (draft_lines (with_objects s persons objects))))

-- ---- the laws

pub some_report : (lines : List Line) (d : Draft) → said_by lines ≡ Some d → BeginsReport lines
some_report lines d e =
    let s = said_all nothing lines d tt e in
    let g = goes_on d s.1 in
    (g.0, g.1, g.2, g.3 ∙ ap (λ ls. ls ++ g.1) s.0)

pub no_report : (lines : List Line) → said_by lines ≡ None → BeginsReport lines → ⊥
no_report lines e b =
    let said = report_said b.0 b.2 in
    let none : said_by (report_lines b.0) ≡ None = ap said_by b.3 ∙ follow-append (Some nothing) lines b.1 ∙ ap (λ o. follow_all o b.1) e ∙ follow_none b.1 in
    cc (said.1)

pub no_end : (lines : List Line) (d : Draft) → said_by lines ≡ Some d → finish d ≡ None → (r : Report) → IsReport r → report_lines r ≡ lines → ⊥
no_end lines d e f r h g =
    let said = report_said r h in
    let same : Some said.0 ≡ Some d = sym said.1 ∙ ap said_by g ∙ e in
    cc (said.2)
