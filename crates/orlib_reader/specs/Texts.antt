-- Second and third step: from the tokens of a text to its numbers or its first fault, and from the
-- numbers to a problem.
use Rattle.std.specs.Prelude.{◌≡◌, ℕ, ◌*◌, ◌%◌, ℤ, List, [], ◌∷◌, ◌++◌, Result, Ok, Err, nat_lt, ◌==◌, if◌then◌else◌, Bool, false, length, nat_abs}
use Rattle.assign_core.specs.Rows.{Listing}
use Rattle.assign_core.specs.Dense.{dense_rows}
use Rattle.assign_core.specs.Sparse.{Triple, IsSparse}
use Rattle.orlib_reader.specs.Tokens.{Piece, whole, open_at, beyond, pieces_of}
use Rattle.orlib_reader.specs.Numbers.{judged}
use Rattle.orlib_reader.specs.declared.fault.InputFault.{InputFault}
use Rattle.orlib_reader.specs.declared.fault.InputFault.TheVariants as faults
use Rattle.orlib_reader.specs.declared.layout.Layout.{Layout}
use Rattle.orlib_reader.specs.declared.layout.Layout.TheVariants as layouts
use Rattle.orlib_reader.specs.Wanted.{Wanted}
use Rattle.orlib_reader.specs.Wanted as wanted

-- what is expected after the numbers found so far: a dense text is n and then n * n costs, a sparse
-- text n and then triples
abbrev pub wanted_in : Layout → List ℤ → Wanted
wanted_in layout [] = wanted.Size
wanted_in layouts.Dense (n ∷ costs) =
    if nat_lt (length costs) (nat_abs n * nat_abs n) then wanted.Cost else wanted.Nothing
wanted_in layouts.Sparse (n ∷ triples) =
    if length triples % 3 == 2 then wanted.Cost else wanted.Index (nat_abs n)

-- whether a text may end after these numbers
abbrev pub may_end : Layout → List ℤ → Bool
may_end layout [] = false
may_end layouts.Dense (n ∷ costs) = length costs == nat_abs n * nat_abs n
may_end layouts.Sparse (n ∷ triples) = length triples % 3 == 0

-- the numbers of a text that ends after them
abbrev pub ended : Layout → List ℤ → Result (List ℤ) InputFault
ended layout [] = Err faults.Empty
ended layout (n ∷ others) = if may_end layout (n ∷ others) then Ok (n ∷ others) else Err (faults.Truncated (length (n ∷ others)))

-- a token that crosses the limit is judged only where no token may stand
abbrev pub judged_open : Wanted → ℕ → InputFault
judged_open wanted.Nothing place = faults.Extra place
judged_open w place = faults.TooLong

-- the next step on a value; a fault stays
abbrev pub and_then : {X Y : Type 0} → Result X InputFault → (X → Result Y InputFault) → Result Y InputFault
and_then (Ok x) f = f x
and_then (Err e) f = Err e

-- the numbers of a text, or its first fault, after the numbers found so far
abbrev pub numbers_from : Layout → List ℤ → List Piece → Result (List ℤ) InputFault
numbers_from layout found [] = ended layout found
numbers_from layout found (whole t ∷ pieces) = and_then (judged (wanted_in layout found) t) (λ v. numbers_from layout (found ++ v ∷ []) pieces)
numbers_from layout found (open_at place ∷ pieces) = Err (judged_open (wanted_in layout found) place)
numbers_from layout found (beyond ∷ pieces) = Err faults.TooLong

-- the numbers of a text, or its first fault
abbrev pub numbers_in : Layout → List ℕ → Result (List ℤ) InputFault
numbers_in layout bytes = numbers_from layout [] (pieces_of bytes)

-- the rows of the numbers n and then the costs
abbrev pub dense_problem : List ℤ → List Listing
dense_problem [] = []
dense_problem (n ∷ costs) = dense_rows (nat_abs n) costs

-- the problem of a dense text, or its first fault
abbrev pub dense_reading : List ℕ → Result (List Listing) InputFault
dense_reading bytes = and_then (numbers_in layouts.Dense bytes) (λ numbers. Ok (dense_problem numbers))

-- the triples of these numbers: a person, an object and a cost each
abbrev pub triples_of : List ℤ → List Triple
triples_of [] = []
triples_of (i ∷ []) = []
triples_of (i ∷ j ∷ []) = []
triples_of (i ∷ j ∷ c ∷ numbers) = (nat_abs i, nat_abs j, c) ∷ triples_of numbers

-- n and the triples, of the numbers of a sparse text
abbrev pub sparse_list : List ℤ → ℕ × List Triple
sparse_list [] = (0, [])
sparse_list (n ∷ numbers) = (nat_abs n, triples_of numbers)

-- the size and the triples of a sparse text, or its first fault
abbrev pub sparse_reading : List ℕ → Result (ℕ × List Triple) InputFault
sparse_reading bytes = and_then (numbers_in layouts.Sparse bytes) (λ numbers. Ok (sparse_list numbers))

-- a fault is the expected one, except for `Memory` and `Read`
abbrev pub Fails : {Y : Type 0} → InputFault → Result Y InputFault → Type 0
Fails faults.Memory reading = Unit {0}
Fails faults.Read reading = Unit {0}
Fails fault reading = reading ≡ Err fault

-- the result is the expected one
abbrev pub Gives : {X Y : Type 0} → (X → Y) → Result X InputFault → Result Y InputFault → Type 0
Gives view (Ok x) reading = reading ≡ Ok (view x)
Gives view (Err e) reading = Fails e reading

-- the result is the expected one, in the same terms
abbrev pub Answers : {X : Type 0} → Result X InputFault → Result X InputFault → Type 0
Answers result reading = Gives (λ x. x) result reading

-- the rows list just the pairs that the text gives, each at its least cost
abbrev pub SparseAnswers : Result (List Listing) InputFault → Result (ℕ × List Triple) InputFault → Type 0
SparseAnswers (Ok rows) (Ok given) = IsSparse given.0 given.1 rows
SparseAnswers (Ok rows) (Err e) = ⊥
SparseAnswers (Err e) reading = Fails e reading

-- the rows are those of the numbers
abbrev pub IsProblemOf : Layout → List ℤ → List Listing → Type 0
IsProblemOf layouts.Dense numbers rows = dense_problem numbers ≡ rows
IsProblemOf layouts.Sparse numbers rows = IsSparse (sparse_list numbers).0 (sparse_list numbers).1 rows

-- the result is the problem of the numbers, or their fault
abbrev pub Meets : Layout → Result (List Listing) InputFault → Result (List ℤ) InputFault → Type 0
Meets layout (Ok rows) (Ok numbers) = IsProblemOf layout numbers rows
Meets layout (Ok rows) (Err e) = ⊥
Meets layout (Err e) numbers = Fails e numbers
