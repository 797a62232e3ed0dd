-- What is said of the problem that a text gives.
use Rattle.std.specs.Prelude.{◌≡◌, ℕ, List, Ok}
use Rattle.assign_core.specs.Rows.{Listing}
use Rattle.orlib_reader.specs.Texts.{SparseAnswers, dense_reading, sparse_reading}

-- the bytes are a dense text, and this holds of its problem
abbrev pub IsOfDense : List ℕ → (List Listing → Type 0) → Type 0
IsOfDense bytes P = (rows : List Listing) × (dense_reading bytes ≡ Ok rows) × P rows

-- the bytes are a sparse text, and this holds of its problem
abbrev pub IsOfSparse : List ℕ → (List Listing → Type 0) → Type 0
IsOfSparse bytes P = (rows : List Listing) × SparseAnswers (Ok rows) (sparse_reading bytes) × P rows
