-- A line from its words.
use Rattle.std.specs.Prelude.{◌≡◌, ℕ, pos, negsuc, ◌≤◌, List, [], ◌∷◌, Option, None, Some, IsTrue, nat_lt, ◌==◌, if◌then◌else◌, codes, length, nat_abs}
use Rattle.std.specs.Str.{bytes_eq}
use Rattle.assign_core.specs.declared.numbers.TheConstants.{MOST_PERSONS}
use Rattle.assign_core.specs.declared.sense.Sense.{Sense}
use Rattle.assign_core.specs.declared.sense.Sense.TheVariants.{Min, Max}
use Rattle.report.specs.inside.WordsLeft.{words_of}
use Rattle.report.specs.Reports.{is_rising}
use Rattle.report.specs.Lines.{Line, sense_line, cost_line, assign_line, price_line, infeasible_line, persons_line, objects_line}
use Rattle.report.specs.inside.Numerals.{◌>>=◌, cost_in, price_in, number_in, widest_cost, last_price}

-- the first word by this reading, and the words after it
abbrev pub first_by : {A : Type 0} → (List ℕ → Option A) → List (List ℕ)
    → Option (A × List (List ℕ))
first_by read [] = None
first_by read (word ∷ words) = read word >>= λ x. Some (x, words)

-- a word was taken and read like this, and these words are left
abbrev pub Takes : {A : Type 0} → (List ℕ → Option A) → List (List ℕ) → Option A
    → List (List ℕ) → Type 0
Takes read old None new = first_by read old ≡ None
Takes read old (Some x) new = first_by read old ≡ Some (x, new)

-- this value, if no word is left
abbrev pub at_end : {A : Type 0} → A → List (List ℕ) → Option A
at_end x [] = Some x
at_end x (word ∷ words) = None

abbrev pub sense_in : List ℕ → Option Sense
sense_in word =
    if bytes_eq word (codes "min") then Some Min
    else if bytes_eq word (codes "max") then Some Max else None

unfoldable pub read_sense : List (List ℕ) → Option Line
read_sense words = do
  sense ← first_by sense_in words
  at_end (sense_line sense.0) sense.1

unfoldable pub read_cost : List (List ℕ) → Option Line
read_cost words = do
  c ← first_by cost_in words
  at_end (cost_line c.0) c.1

unfoldable pub read_assign : List (List ℕ) → Option Line
read_assign words = do
  i ← first_by number_in words
  j ← first_by number_in i.1
  c ← first_by cost_in j.1
  at_end (assign_line i.0 j.0 c.0) c.1

unfoldable pub read_price : List (List ℕ) → Option Line
read_price words = do
  j ← first_by number_in words
  p ← first_by price_in j.1
  at_end (price_line j.0 p.0) p.1

unfoldable pub read_infeasible : List (List ℕ) → Option Line
read_infeasible words = at_end infeasible_line words

-- numbers that rise, up to the last word
unfoldable pub read_rising : ℕ → List (List ℕ) → Option (List ℕ)
read_rising last [] = Some []
read_rising last (word ∷ words) = do
  n ← number_in word
  ns ← if nat_lt last n then read_rising n words else None
  Some (n ∷ ns)

-- the count of the numbers, and the numbers
unfoldable pub read_list : List (List ℕ) → Option (List ℕ)
read_list words = do
  count ← first_by number_in words
  ns ← read_rising 0 count.1
  if length ns == count.0 then Some ns else None

abbrev pub read_persons : List (List ℕ) → Option Line
read_persons words = read_list words >>= λ xs. Some (persons_line xs)

abbrev pub read_objects : List (List ℕ) → Option Line
read_objects words = read_list words >>= λ xs. Some (objects_line xs)

-- the line with this first word and these words after it
abbrev pub read_behind : List ℕ → List (List ℕ) → Option Line
read_behind word words =
    if bytes_eq word (codes "sense") then read_sense words
    else if bytes_eq word (codes "cost") then read_cost words
    else if bytes_eq word (codes "assign") then read_assign words
    else if bytes_eq word (codes "price") then read_price words
    else if bytes_eq word (codes "infeasible") then read_infeasible words
    else if bytes_eq word (codes "persons") then read_persons words
    else if bytes_eq word (codes "objects") then read_objects words
    else None

abbrev pub read_words : List (List ℕ) → Option Line
read_words [] = None
read_words (word ∷ words) = read_behind word words

-- the line that these bytes are, if they are one
unfoldable pub line_in : List ℕ → Option Line
line_in bytes = read_words (words_of bytes)

-- the numbers of a line are in the ranges of the widest report
abbrev pub IsInRange : Line → Type 0
IsInRange (sense_line sense) = Unit {0}
IsInRange (cost_line c) = nat_abs c ≤ widest_cost
IsInRange (assign_line i j c) = (i ≤ MOST_PERSONS) × (j ≤ MOST_PERSONS) × (nat_abs c ≤ widest_cost)
IsInRange (price_line j (pos p)) = (j ≤ MOST_PERSONS) × (p ≤ last_price)
IsInRange (price_line j (negsuc p)) = ⊥
IsInRange infeasible_line = Unit {0}
IsInRange (persons_line xs) = IsTrue (is_rising 0 xs)
IsInRange (objects_line xs) = IsTrue (is_rising 0 xs)
