-- What holds of a problem that was read holds of the problem of its text.
use Rattle.std.proofs.Common.{ℕ, List, Option, None, Some, Ok, IfSome}
use Rattle.assign_core.specs.Rows.{Listing}
use Rattle.orlib_reader.specs.Texts.{SparseAnswers, sparse_reading}
use Rattle.calling.specs.Texts.{IsOfSparse}

pub of_sparse : (bytes : Option (List ℕ)) (rows : List Listing) (P : List Listing → Type 0) → P rows →
    IfSome bytes (λ text. SparseAnswers (Ok rows) (sparse_reading text)) → IfSome bytes (λ text. IsOfSparse text P)
of_sparse None rows P holds read = tt
of_sparse (Some text) rows P holds read = (rows, read, holds)
