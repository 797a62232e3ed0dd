-- Persons with the same row, and the first persons of a round.
use Rattle.std.specs.Prelude.{◌≡◌, ℕ, ◌<◌, ◌++◌, ◌⊎◌, List, [], ◌∷◌, All, IsTrue, length, slice_index_or}
use Rattle.assign_core.specs.Numbered.{IsNumber, numbered}
use Rattle.scaled_values.specs.Scaled.{ScaledProblem}
use Rattle.bidder.specs.Offers.{benefits_at}
use Rattle.rounds.specs.declared.similar.SimilarPersons.{SimilarPersons}

-- for each person a person with the same row; nothing says that it is the lowest of them
pub record HasAlike (s : ScaledProblem) (alike : List ℕ) : Type 0 where
  pub long : length alike ≡ length s.problem
  pub numbers : All (IsNumber (length s.problem)) alike
  pub same : (i : ℕ) → IsNumber (length s.problem) i → benefits_at s (numbered alike i 0) ≡ benefits_at s i

-- the same, with room for a mark for each person if some are known to be alike
pub record AreSimilar (s : ScaledProblem) (similar : SimilarPersons) : Type 0 where
  pub alike : IsTrue similar.some → HasAlike s similar.alike.items
  pub marks : IsTrue similar.some → length similar.marks.items ≡ length s.problem

-- a person of a round has a place among first persons, of which there may be one more than before,
-- and the person there is of its kind
pub record IsPlaced (alike old new : List ℕ) (person place : ℕ) : Type 0 where
  pub grown : (new ≡ old) ⊎ (new ≡ old ++ person ∷ [])
  pub within : place < length new
  pub same : (d : ℕ) → numbered alike (slice_index_or new place d) 0 ≡ numbered alike person 0

-- for each of a round's persons, the place of the first person of its kind
pub record IsGathered (alike persons firsts places : List ℕ) : Type 0 where
  pub long : length places ≡ length persons
  pub numbers : All (IsNumber (length alike)) firsts
  pub within : All (λ place. place < length firsts) places
  pub same : (k d e f : ℕ) → k < length persons
      → numbered alike (slice_index_or firsts (slice_index_or places k d) e) 0 ≡ numbered alike (slice_index_or persons k f) 0
