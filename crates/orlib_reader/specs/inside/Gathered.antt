-- How the numbers of a sparse text are kept: pieces of triples, and the triple that has begun.
use Rattle.std.specs.Prelude.{◌≡◌, ℕ, ℤ, pos, List, [], ◌∷◌, ◌++◌, All, flat_map, length}
use Rattle.assign_core.specs.Numbered.{IsNumber}
use Rattle.assign_core.specs.Rows.{IsSize}
use Rattle.assign_core.specs.Sparse.{Triple, IsTriple}
use Rattle.orlib_reader.specs.declared.sparse.TheConstants.{PIECE_LENGTH}
use Rattle.orlib_reader.specs.declared.sparse.Begun.{Begun}
use Rattle.orlib_reader.specs.declared.sparse.Begun.TheVariants.{Nothing, Person, Pair}

-- pieces of one length, and the triples after them
abbrev pub gathered : List (List Triple) → List Triple → List Triple
gathered pieces piece = flat_map (λ p. p) pieces ++ piece

abbrev pub numbers_of : Triple → List ℤ
numbers_of t = pos t.0 ∷ pos t.1 ∷ t.2 ∷ []

-- the numbers of the triple that has begun
abbrev pub begun_numbers : Begun → List ℤ
begun_numbers Nothing = []
begun_numbers (Person i) = pos i ∷ []
begun_numbers (Pair i j) = pos i ∷ pos j ∷ []

abbrev pub sparse_numbers : ℕ → List Triple → Begun → List ℤ
sparse_numbers n triples begun = pos n ∷ (flat_map numbers_of triples ++ begun_numbers begun)

-- they are numbers from 1 to n
abbrev pub AreWithin : ℕ → Begun → Type 0
AreWithin n Nothing = Unit {0}
AreWithin n (Person i) = IsNumber n i
AreWithin n (Pair i j) = IsNumber n i × IsNumber n j

pub record IsGathered (n : ℕ) (pieces : List (List Triple)) (piece : List Triple) (begun : Begun) : Type 0 where
  pub size : IsSize n
  pub within : AreWithin n begun
  pub full : All (λ p. length p ≡ PIECE_LENGTH) pieces
  pub triples : All (IsTriple n) (gathered pieces piece)
