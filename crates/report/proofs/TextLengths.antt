-- How long the text of a report may be.
use Rattle.std.proofs.Common.{◌≡◌, ℕ, ℤ, pos, negsuc, nat_abs, suc, ◌≤◌, ◌+◌, ◌*◌, true, List, [], ◌∷◌, ◌++◌}
use Rattle.std.proofs.Common.{Option, Some, None, length, map, refl, sym, ap, ◌∙◌, arith, append_assoc, decimal}
use Rattle.std.proofs.Common.{codes}
use Rattle.std.specs.Fmt.{signed_decimal}
use Rattle.std.specs.List.{AllByRecursion}
use Rattle.std.proofs.lemmas.Fmt.{length-decimal-le_wide}
use Rattle.std.proofs.lemmas.List.{length-append, length-map}
use Rattle.report.specs.declared.limits.TheConstants.{TEXT_LIMIT}
use Rattle.report.specs.declared.numerals.TheConstants.{MOST_DIGITS}
use Rattle.assign_core.specs.declared.numbers.TheConstants.{MOST_PERSONS}
use Rattle.assign_core.specs.declared.sense.Sense.{Sense}
use Rattle.assign_core.specs.declared.sense.Sense.TheVariants.{Min, Max}
use Rattle.report.specs.Words.{behind_spaces}
use Rattle.report.specs.Reports.{Report, best, hall, is_rising, IsReport, ArePrices}
use Rattle.report.specs.Lines.{Line, cost_line, assign_line, price_line, infeasible_line, persons_line}
use Rattle.report.specs.Lines.{objects_line, line_text, lines_text, sense_lines, assign_lines, price_lines}
use Rattle.report.specs.Lines.{lines_of_prices, report_lines, report_text}
use Rattle.report.specs.inside.Numerals.{widest_cost, last_price}
use Rattle.report.specs.inside.Reading.{IsInRange}
use Rattle.report.proofs.Elements.{all_split}
use Rattle.report.proofs.LineWords.{rising_parts, rising_short}

-- bounds on the bytes of words
abbrev All_upto : ℕ → List (List ℕ) → Type 0
All_upto n words = AllByRecursion (λ w. length w ≤ n) words

behind_short : (n : ℕ) (words : List (List ℕ)) → All_upto n words → length (behind_spaces words) ≤ (n + 1) * length words
behind_short n [] h = omega arith
behind_short n (w ∷ words) h =
    let e : length (behind_spaces (w ∷ words)) ≡ suc (length w + length (behind_spaces words)) = ap suc (length-append w (behind_spaces words)) in
    let i = behind_short n words h.1 in
    omega (arith, e, i, h.0)

price_digits : (n : ℕ) → n ≤ last_price → length (decimal n) ≤ MOST_DIGITS
price_digits n h = length-decimal-le_wide MOST_DIGITS n (omega arith) (omega arith) (omega arith)

small_short : (n : ℕ) → n ≤ MOST_PERSONS → length (decimal n) ≤ 4
small_short n h = length-decimal-le_wide 4 n (omega arith) (omega arith) (omega arith)

signed_short : (c : ℤ) → nat_abs c ≤ widest_cost → length (signed_decimal c) ≤ 17
signed_short (pos n) h = let i = length-decimal-le_wide 16 n (omega arith) (omega arith) (omega arith) in omega (arith, i)
signed_short (negsuc n) h = let i = length-decimal-le_wide 16 (suc n) (omega arith) (omega arith) (omega arith) in omega (arith, i)

-- a line that is no list
abbrev IsShort : Line → Type 0
IsShort line = length (line_text line) ≤ 59

cost_short : (c : ℤ) → nat_abs c ≤ widest_cost → IsShort (cost_line c)
cost_short c h = let i = signed_short c h in let e = length-append (signed_decimal c) [] in omega (arith, i, e)

assign_short : (i j : ℕ) (c : ℤ) → IsInRange (assign_line i j c) → IsShort (assign_line i j c)
assign_short i j c h =
    let a = small_short i h.0 in let b = small_short j h.1 in let k = signed_short c h.2 in
    let d = length-append (signed_decimal c) [] in
    let e = length-append (decimal j) (behind_spaces (signed_decimal c ∷ [])) in
    let f = length-append (decimal i) (behind_spaces (decimal j ∷ signed_decimal c ∷ [])) in
    omega (arith, a, b, k, d, e, f)

price_short : (j : ℕ) (p : ℤ) → IsInRange (price_line j p) → IsShort (price_line j p)
price_short j (pos p) h =
    let a = small_short j h.0 in let k = price_digits p h.1 in
    let d = length-append (decimal p) [] in
    let e = length-append (decimal j) (behind_spaces (decimal p ∷ [])) in
    omega (arith, a, k, d, e)
price_short j (negsuc p) h = absurd h

pub lines-append : (xs ys : List Line) → lines_text (xs ++ ys) ≡ lines_text xs ++ lines_text ys
lines-append [] ys = refl
lines-append (x ∷ xs) ys = ap (λ (t : List ℕ). line_text x ++ 10 ∷ t) (lines-append xs ys) ∙
    sym (append_assoc (line_text x) (10 ∷ lines_text xs) (lines_text ys))

line_more : (line : Line) (lines : List Line) → length (lines_text (line ∷ lines)) ≡ length (line_text line) + suc (length (lines_text lines))
line_more line lines = length-append (line_text line) (10 ∷ lines_text lines)

-- ---- whole reports

assigns_short : (i : ℕ) (rows : List (ℕ × ℤ)) → AllByRecursion IsInRange (assign_lines i rows) → length (lines_text (assign_lines i rows)) ≤ 60 * length rows
assigns_short i [] h = omega arith
assigns_short i (r ∷ rows) h =
    let e = line_more (assign_line i r.0 r.1) (assign_lines (i + 1) rows) in
    let a = assign_short i r.0 r.1 h.0 in
    let k = assigns_short (i + 1) rows h.1 in
    omega (arith, e, a, k)

prices_short : (j : ℕ) (prices : List ℤ) → AllByRecursion IsInRange (price_lines j prices) → length (lines_text (price_lines j prices)) ≤ 60 * length prices
prices_short j [] h = omega arith
prices_short j (p ∷ prices) h =
    let e = line_more (price_line j p) (price_lines (j + 1) prices) in
    let a = price_short j p h.0 in
    let k = prices_short (j + 1) prices h.1 in
    omega (arith, e, a, k)

numbers_short : (last : ℕ) (xs : List ℕ) → is_rising last xs ≡ true → All_upto 4 (map decimal xs)
numbers_short last [] h = tt
numbers_short last (x ∷ xs) h = let p = rising_parts last x xs h in (small_short x p.1, numbers_short x xs p.2)

-- what follows the word of a list line
list_short : (xs : List ℕ) → is_rising 0 xs ≡ true → length (behind_spaces (decimal (length xs) ∷ map decimal xs)) ≤ 40965
list_short xs h =
    let few = rising_short 0 xs (omega arith) h in
    let b = behind_short 4 (decimal (length xs) ∷ map decimal xs) (small_short (length xs) (omega (arith, few)), numbers_short 0 xs h) in
    omega (arith, b, length-map xs decimal, few)

sense_short : (s : Option Sense) (lines : List Line) → length (lines_text (sense_lines s ++ lines)) ≤ 10 + length (lines_text lines)
sense_short None lines = omega arith
sense_short (Some Min) lines = omega arith
sense_short (Some Max) lines = omega arith

rest_short : (prices : Option (List ℤ)) → AllByRecursion IsInRange (lines_of_prices prices) → (n : ℕ) →
    (s : Option Sense) → ArePrices s n prices → n ≤ MOST_PERSONS → length (lines_text (lines_of_prices prices)) ≤ 491520
rest_short None h n s a l = omega arith
rest_short (Some prices) h n s a l = let k = prices_short 1 prices h in omega (arith, k, a.0)

pub text_short : (r : Report) → IsReport r → AllByRecursion IsInRange (report_lines r) → length (report_text r) ≤ TEXT_LIMIT
text_short (best s c rows prices) h n =
    let a = all_split IsInRange (sense_lines s) (cost_line c ∷ (assign_lines 1 rows ++ lines_of_prices prices)) n in
    let b = all_split IsInRange (assign_lines 1 rows) (lines_of_prices prices) a.1.1 in
    let cost = cost_short c a.1.0 in
    let one = line_more (cost_line c) (assign_lines 1 rows ++ lines_of_prices prices) in
    let parts : length (lines_text (assign_lines 1 rows ++ lines_of_prices prices)) ≡ length
    (lines_text (assign_lines 1 rows)) + length (lines_text (lines_of_prices prices)) =
    ap length (lines-append (assign_lines 1 rows) (lines_of_prices prices)) ∙
    length-append (lines_text (assign_lines 1 rows)) (lines_text (lines_of_prices prices)) in
    let x = assigns_short 1 rows b.0 in
    let y = rest_short prices b.1 (length rows) s h.priced h.few in
    let z = sense_short s (cost_line c ∷ (assign_lines 1 rows ++ lines_of_prices prices)) in
    omega (arith, cost, one, parts, x, y, z, h.few)
text_short (hall s persons objects) h n =
    let z = sense_short s (infeasible_line ∷ persons_line persons ∷ objects_line objects ∷ []) in
    let one = line_more infeasible_line (persons_line persons ∷ objects_line objects ∷ []) in
    let two = line_more (persons_line persons) (objects_line objects ∷ []) in
    let three = line_more (objects_line objects) [] in
    let p = list_short persons h.persons_rise in
    let q = list_short objects h.objects_rise in
    let word = length-append (codes "infeasible") [] in
    omega (arith, z, one, two, three, p, q)
