-- The outcome of a run of workers.
use Rattle.std.specs.Prelude.{◌≡◌, ℕ, ℤ, zero, suc, ◌+◌, ◌≤◌, List, [], ◌∷◌, ◌++◌, Some, true}
use Rattle.assign_core.specs.Hall.{IsHallSet}
use Rattle.assign_core.specs.Numbered.{numbered}
use Rattle.assign_core.specs.declared.outcome.Outcome.{Outcome}
use Rattle.assign_core.specs.declared.outcome.Outcome.TheVariants.{Best, Hall}
use Rattle.scaled_values.specs.Scaled.{ScaledProblem}
use Rattle.auction_book.specs.Answers.{IsAnswer}
use Rattle.auction_book.specs.Book.{BookData}
use Rattle.auction_book.specs.Follows.{GoesOn}
use Rattle.auction_book.specs.Free.{IsFree}
use Rattle.auction_book.specs.Phases.{is_done, opened}
use Rattle.async_workers.specs.declared.solving.Tally.{Tally}

-- the book's answer: everybody is assigned in the last phase, by its owners at its prices, or it
-- has this Hall set
abbrev pub IsAnsweredBy : BookData → Outcome → Type 0
IsAnsweredBy b (Best c) = (is_done b ≡ true) × IsAnswer b c
IsAnsweredBy b (Hall h) = (b.refuted ≡ Some h) × IsHallSet b.base.problem h.persons h.objects

-- the tally of a worker
abbrev pub tally_of : BookData → ℕ → Tally
tally_of b worker = record { worker = worker; accepted = numbered b.counts worker 0 }

-- the tallies of workers 1, 2, .., n
abbrev pub tallies : BookData → ℕ → List Tally
tallies b zero = []
tallies b (suc n) = tallies b n ++ tally_of b (n + 1) ∷ []

-- the number of accepted bids of all workers
abbrev pub accepted_in_all : List Tally → ℕ
accepted_in_all [] = 0
accepted_in_all (t ∷ all) = t.accepted + accepted_in_all all

-- each person was assigned by an accepted bid
abbrev pub IsEnough : ℕ → Outcome → List Tally → Type 0
IsEnough persons (Best c) all = persons ≤ accepted_in_all all
IsEnough persons (Hall h) all = Unit {0}

-- outcome and tallies are those of one free book with this many workers that goes on from this book
pub record IsEndOf (from : BookData) (workers : ℕ) (outcome : Outcome) (all : List Tally) : Type 0 where
  pub book : BookData
  pub free : IsFree book
  pub goes_on : GoesOn from book
  pub answers : IsAnsweredBy book outcome
  pub tallied : all ≡ tallies book workers

-- the same from the book opened with these prices: the last book has their problem and number of
-- workers, and no price is lower
abbrev pub IsSolved : ScaledProblem → List ℤ → ℕ → Outcome → List Tally → Type 0
IsSolved s prices workers outcome all = IsEndOf (opened s prices workers) workers outcome all
