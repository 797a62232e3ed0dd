-- The answer of a book in which everybody is assigned in the last phase.
use Rattle.std.specs.Prelude.{◌≡◌, ℕ, Option, None, Some, true, false, length}
use Rattle.assign_core.specs.declared.certificate.Certificate.{Certificate}
use Rattle.assign_core.specs.Matching.{owner_of}
use Rattle.assign_core.specs.Numbered.{IsNumber, numbered}
use Rattle.assign_core.specs.Slackness.{IsCertificate}
use Rattle.auction_book.specs.Book.{BookData, persons_of, prices_of}
use Rattle.auction_book.specs.Phases.{is_done}

-- each person's object is the one that it owns, the prices are the book's, and both are a
-- certificate
pub record IsAnswer (b : BookData) (c : Certificate) : Type 0 where
  pub long : length c.assignment ≡ persons_of b
  pub owned : (i : ℕ) → IsNumber (persons_of b) i → owner_of b.owners (numbered c.assignment i 0) ≡ Some i
  pub priced : c.prices ≡ prices_of b
  pub proves : IsCertificate b.base.sense b.base.problem c.assignment c.prices

-- an answer exactly where everybody is assigned in the last phase
abbrev pub IsAnswered : BookData → Option Certificate → Type 0
IsAnswered b None = is_done b ≡ false
IsAnswered b (Some c) = (is_done b ≡ true) × IsAnswer b c
