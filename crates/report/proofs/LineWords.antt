-- The words of a line.
use Rattle.std.proofs.Common.{◌≡◌, ℕ, ℤ, pos, negsuc, nat_abs, suc, ◌<◌, ◌≤◌, ◌+◌, ◌^◌, List, [], ◌∷◌, true}
use Rattle.std.proofs.Common.{eqb, ltb, leb, ◌&&◌, Some, length, map, refl, ap}
use Rattle.std.proofs.Common.{◌∙◌, arith, decimal, codes}
use Rattle.std.specs.Fmt.{signed_decimal}
use Rattle.std.specs.List.{AllByRecursion}
use Rattle.std.proofs.lemmas.Bool.{eq-eqb, lt-ltb, ltb-true, le-leb, leb-true, and_parts}
use Rattle.assign_core.specs.declared.numbers.TheConstants.{MOST_PERSONS}
use Rattle.assign_core.specs.declared.sense.Sense.TheVariants.{Min, Max}
use Rattle.report.specs.Reports.{is_rising}
use Rattle.report.specs.Lines.{Line, sense_line, cost_line, assign_line, price_line, infeasible_line, persons_line}
use Rattle.report.specs.Lines.{objects_line, line_words, line_text}
use Rattle.report.specs.inside.Reading.{read_sense, read_cost, read_assign, read_price}
use Rattle.report.specs.inside.Reading.{read_infeasible, read_rising, read_list, read_words, line_in}
use Rattle.report.specs.inside.Reading.{IsInRange}
use Rattle.report.specs.Answers.{IsWithinLine}
use Rattle.report.proofs.WordLemmas.{IsWord, words_again, word_by_test, within_joined}
use Rattle.report.proofs.NumeralLemmas.{word_decimal, number_again, cost_again, price_again}

-- ---- numbers that rise

-- the first of them, and the others
pub rising_parts : (last x : ℕ) (xs : List ℕ) → is_rising last (x ∷ xs) ≡ true → (last < x) × (x ≤ MOST_PERSONS) × (is_rising x xs ≡ true)
rising_parts last x xs e =
    let a = and_parts (ltb last x && leb x MOST_PERSONS) (is_rising x xs) e in
    let b = and_parts (ltb last x) (leb x MOST_PERSONS) a.0 in
    (ltb-true last x b.0, leb-true x MOST_PERSONS b.1, a.1)

pub rising_more : (last x : ℕ) (xs : List ℕ) → last < x → x ≤ MOST_PERSONS → is_rising x xs ≡ true → is_rising last (x ∷ xs) ≡ true
rising_more last x xs l m e = rw (lt-ltb last x l, le-leb x MOST_PERSONS m) e

-- ---- the words of a line are words

pub word_signed : (c : ℤ) → nat_abs c < 10 ^ 64 → IsWord (signed_decimal c)
word_signed (pos n) h = word_decimal n h
word_signed (negsuc n) h = (omega arith, word_decimal (suc n) h)

pub words_rising : (last : ℕ) (xs : List ℕ) → is_rising last xs ≡ true → AllByRecursion IsWord (map decimal xs)
words_rising last [] h = tt
words_rising last (x ∷ xs) h = let p = rising_parts last x xs h in (word_decimal x (omega (arith, p.1)), words_rising x xs p.2)

pub rising_short : (last : ℕ) (xs : List ℕ) → last ≤ MOST_PERSONS → is_rising last xs ≡ true → length xs + last ≤ MOST_PERSONS
rising_short last [] l h = omega arith
rising_short last (x ∷ xs) l h = let p = rising_parts last x xs h in omega (arith, p.0, rising_short x xs p.1 p.2)

pub line_words_are : (line : Line) → IsInRange line → AllByRecursion IsWord (line_words line)
line_words_are (sense_line Min) h = (word_by_test (codes "sense") refl, (word_by_test (codes "min") refl, tt))
line_words_are (sense_line Max) h = (word_by_test (codes "sense") refl, (word_by_test (codes "max") refl, tt))
line_words_are (cost_line c) h = (word_by_test (codes "cost") refl, (word_signed c (omega (arith, h)), tt))
line_words_are (assign_line i j c) h = (
  word_by_test (codes "assign") refl,
  (
    word_decimal i (omega (arith, h.0)),
    (word_decimal j (omega (arith, h.1)), (word_signed c (omega (arith, h.2)), tt)),
  ),
)
line_words_are (price_line j (pos p)) h = (word_by_test (codes "price") refl, (word_decimal j (omega (arith, h.0)), (word_decimal p (omega (arith, h.1)), tt)))
line_words_are (price_line j (negsuc p)) h = absurd h
line_words_are infeasible_line h = (word_by_test (codes "infeasible") refl, tt)
line_words_are (persons_line xs) h = (
  word_by_test (codes "persons") refl,
  (word_decimal (length xs) (omega (arith, rising_short 0 xs (omega arith) h)), words_rising 0 xs h),
)
line_words_are (objects_line xs) h = (
  word_by_test (codes "objects") refl,
  (word_decimal (length xs) (omega (arith, rising_short 0 xs (omega arith) h)), words_rising 0 xs h),
)

pub line_some : (line : Line) → 0 < length (line_words line)
line_some (sense_line sense) = omega arith
line_some (cost_line c) = omega arith
line_some (assign_line i j c) = omega arith
line_some (price_line j p) = omega arith
line_some infeasible_line = omega arith
line_some (persons_line xs) = omega arith
line_some (objects_line xs) = omega arith

pub line_within : (line : Line) → IsInRange line → IsWithinLine (line_text line)
line_within line h = within_joined (line_words line) (line_words_are line h)

-- ---- what is written is read

pub rising_again : (last : ℕ) (xs : List ℕ) → is_rising last xs ≡ true → read_rising last (map decimal xs) ≡ Some xs
unfolding read_rising
rising_again last [] h = refl
rising_again last (x ∷ xs) h =
    let p = rising_parts last x xs h in
    let above : ltb last x ≡ true = lt-ltb _ _ p.0 in
    rw (number_again x p.1, above, rising_again x xs p.2) refl

pub list_again : (xs : List ℕ) → is_rising 0 xs ≡ true → read_list (decimal (length xs) ∷ map decimal xs) ≡ Some xs
unfolding read_list
list_again xs h =
    let few : length xs ≤ MOST_PERSONS = omega (arith, rising_short 0 xs (omega arith) h) in
    let same : eqb (length xs) (length xs) ≡ true = eq-eqb _ _ refl in
    rw (number_again (length xs) few, rising_again 0 xs h, same) refl

pub read_again : (line : Line) → IsInRange line → read_words (line_words line) ≡ Some line
unfolding read_sense read_cost read_assign read_price read_infeasible
read_again (sense_line Min) h = refl
read_again (sense_line Max) h = refl
read_again (cost_line c) h = rw (cost_again c h) refl
read_again (assign_line i j c) h = rw (number_again i h.0, number_again j h.1, cost_again c h.2) refl
read_again (price_line j (pos p)) h = rw (number_again j h.0, price_again p h.1) refl
read_again (price_line j (negsuc p)) h = absurd h
read_again infeasible_line h = refl
read_again (persons_line xs) h = rw (list_again xs h) refl
read_again (objects_line xs) h = rw (list_again xs h) refl

pub line_again : (line : Line) → IsInRange line → line_in (line_text line) ≡ Some line
unfolding line_in
line_again line h = ap read_words (words_again (line_words line) (line_some line) (line_words_are line h)) ∙ read_again line h
