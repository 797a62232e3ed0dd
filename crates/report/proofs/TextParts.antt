-- The text of a report in the parts in which it is written.
use Rattle.std.proofs.Common.{◌≡◌, ℕ, ℤ, List, [], ◌∷◌, ◌++◌, Option, Some, length, map, sym, ap, ◌∙◌, append_assoc, decimal, codes}
use Rattle.std.proofs.lemmas.List.{map-id}
use Rattle.assign_core.specs.declared.sense.Sense.{Sense}
use Rattle.report.specs.Words.{behind_spaces, joined}
use Rattle.report.specs.Reports.{best, hall}
use Rattle.report.specs.Lines.{Line, sense_line, cost_line, infeasible_line, persons_line, objects_line, line_text}
use Rattle.report.specs.Lines.{lines_text, assign_lines, lines_of_prices, report_text}
use Rattle.report.proofs.TextLengths.{lines-append}

one_more : (line : Line) (lines : List Line) → lines_text (line ∷ lines) ≡ lines_text (line ∷ []) ++ lines_text lines
one_more line lines = sym (append_assoc (line_text line) (10 ∷ []) (lines_text lines))

four : (a b c d : List ℕ) → a ++ (b ++ (c ++ d)) ≡ ((a ++ b) ++ c) ++ d
four a b c d = sym (append_assoc a b (c ++ d)) ∙ sym (append_assoc (a ++ b) c d)

pub best_parts : (s : Sense) (c : ℤ) (rows : List (ℕ × ℤ)) (prices : Option (List ℤ)) → report_text (best (Some s) c rows prices)
    ≡ ((lines_text (sense_line s ∷ []) ++ lines_text (cost_line c ∷ [])) ++ lines_text (assign_lines 1 rows)) ++ lines_text (lines_of_prices prices)
best_parts s c rows prices =
    one_more (sense_line s) (cost_line c ∷ (assign_lines 1 rows ++ lines_of_prices prices))
    ∙ ap (λ t. lines_text (sense_line s ∷ []) ++ t) (one_more (cost_line c) (assign_lines 1 rows ++ lines_of_prices prices)
    ∙ ap (λ t. lines_text (cost_line c ∷ []) ++ t) (lines-append (assign_lines 1 rows) (lines_of_prices prices)))
    ∙ four (lines_text (sense_line s ∷ [])) (lines_text (cost_line c ∷ [])) (lines_text (assign_lines 1 rows)) (lines_text (lines_of_prices prices))

pub hall_parts : (s : Sense) (persons objects : List ℕ) → report_text (hall (Some s) persons objects)
    ≡ ((lines_text (sense_line s ∷ []) ++ lines_text (infeasible_line ∷ [])) ++ lines_text
    (persons_line persons ∷ [])) ++ lines_text (objects_line objects ∷ [])
hall_parts s persons objects =
    one_more (sense_line s) (infeasible_line ∷ persons_line persons ∷ objects_line objects ∷ [])
    ∙ ap (λ t. lines_text (sense_line s ∷ []) ++ t) (one_more infeasible_line (persons_line persons ∷ objects_line objects ∷ [])
    ∙ ap (λ t. lines_text (infeasible_line ∷ []) ++ t) (one_more (persons_line persons) (objects_line objects ∷ [])))
    ∙ four (lines_text (sense_line s ∷ [])) (lines_text (infeasible_line ∷ []))
    (lines_text (persons_line persons ∷ [])) (lines_text (objects_line objects ∷ []))

-- the text of a list line
abbrev list_text : List ℕ → List ℕ → List ℕ
list_text word xs = joined (word ∷ decimal (length xs) ∷ map decimal (map (λ (x : ℕ). x) xs)) ++ 10 ∷ []

list_text_is : (word xs : List ℕ) → joined (word ∷ decimal (length xs) ∷ map decimal xs) ++ 10 ∷ [] ≡ list_text word xs
list_text_is word xs = ap (λ (ys : List ℕ). joined (word ∷ decimal (length xs) ∷ map decimal ys) ++ 10 ∷ []) (sym (map-id xs))

-- the same, with the lists as they are passed
pub hall_lists : (s : Sense) (persons objects ps os : List ℕ) → ps ≡ persons → os ≡ objects → report_text (hall (Some s) persons objects)
    ≡ ((lines_text (sense_line s ∷ []) ++ lines_text (infeasible_line ∷ [])) ++ list_text (codes "persons") ps) ++ list_text (codes "objects") os
hall_lists s persons objects ps os e f =
    hall_parts s persons objects
    ∙ ap (λ t. ((lines_text (sense_line s ∷ []) ++ lines_text (infeasible_line ∷ [])) ++ t) ++ lines_text
    (objects_line objects ∷ [])) (list_text_is (codes "persons") persons ∙ ap (list_text (codes "persons")) (sym e))
    ∙ ap (λ t. ((lines_text (sense_line s ∷ []) ++ lines_text (infeasible_line ∷ [])) ++ list_text (codes "persons")
    ps) ++ t) (list_text_is (codes "objects") objects ∙ ap (list_text (codes "objects")) (sym f))

-- a list line: its head, its numbers and its end
pub list_parts : (word count : List ℕ) (numbers : List (List ℕ)) → joined (word ∷ count ∷ numbers) ++ 10 ∷ [] ≡
    ((word ++ 32 ∷ count) ++ behind_spaces numbers) ++ 10 ∷ []
list_parts word count numbers = ap (λ t. t ++ 10 ∷ []) (sym (append_assoc word (32 ∷ count) (behind_spaces numbers)))
