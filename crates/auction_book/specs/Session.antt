-- The effect of one worker's session with the book.
use Rattle.std.specs.Prelude.{◌≡◌, ℕ, ℤ, List, Option, None, Some, Bool, cond, Result, Ok, Err, ◌≢◌, MatchResult}
use Rattle.assign_core.specs.Hall.{HallLists}
use Rattle.assign_core.specs.Numbered.{numbered}
use Rattle.scaled_values.specs.Scaled.{ScaledProblem}
use Rattle.bidder.specs.declared.offers.Offer.{Offer}
use Rattle.bidder.specs.declared.offers.Offer.TheVariants as made
use Rattle.bidder.specs.Offers.{IsOffer, offer_of}
use Rattle.hall_refuter.specs.Search.{IsRefuted}
use Rattle.auction_book.specs.declared.answers.Claim.{Claim}
use Rattle.auction_book.specs.declared.answers.Claim.TheVariants as claim
use Rattle.auction_book.specs.declared.answers.Accepted.{Accepted}
use Rattle.auction_book.specs.declared.answers.Note.{Note}
use Rattle.auction_book.specs.declared.answers.Note.TheVariants as note
use Rattle.auction_book.specs.declared.answers.Refused.{Refused}
use Rattle.auction_book.specs.declared.answers.Refused.TheVariants.{Memory}
use Rattle.auction_book.specs.Book.{BookData, Holds, prices_of, version_of}
use Rattle.auction_book.specs.Changes.{caught_up, phased, recorded, released}
use Rattle.auction_book.specs.Claims.{after_claim, claim_of}
use Rattle.auction_book.specs.Follows.{Follows}
use Rattle.auction_book.specs.Phases.{is_over}
use Rattle.auction_book.specs.Submissions.{IsSubmitted}

-- a prepared offer is the offer of the claimed person in this phase, from the worker's table
abbrev pub IsPrepared : BookData → ℕ → List ℤ → ℕ → Option Offer → Type 0
IsPrepared b worker table version None = numbered b.claims worker None ≡ None
IsPrepared b worker table version (Some offer) = (person : ℕ) × Holds b worker person × IsOffer b.base table version b.ask person offer

-- the Hall set of all persons that a person reaches was recorded, and the claim is over
abbrev pub IsReachRecorded : BookData → ℕ → ℕ → BookData → Type 0
IsReachRecorded b worker person new = (lists : HallLists) × IsRefuted b.base.problem b.owners person lists × (new ≡ recorded b worker person lists)

-- the note on a bid that was answered
abbrev pub note_of : Result Accepted Refused → Note
note_of (Ok a) = note.Accepted
note_of (Err r) = note.Refused r

-- the note on an offer that was submitted, or searched and recorded, without a refused growth
abbrev pub IsNoted : BookData → ℕ → Option Offer → BookData → Note → Type 0
IsNoted b worker None new told = (new ≡ b) × (told ≡ note.Nothing)
IsNoted b worker (Some (made.Bid bid)) new told = (answer : Result Accepted Refused) × (answer ≢ Err Memory) ×
    IsSubmitted b worker bid answer new × (told ≡ note_of answer)
IsNoted b worker (Some (made.Below below)) new told = IsReachRecorded b worker below.person new × (told ≡ note.Nothing)

-- the note on an offer that met a refused growth: the bid is refused, or the claim is given up
abbrev pub IsUndone : BookData → ℕ → Option Offer → BookData → Note → Type 0
IsUndone b worker None new told = ⊥
IsUndone b worker (Some (made.Bid bid)) new told = IsSubmitted b worker bid (Err Memory) new × (told ≡ note.Refused Memory)
IsUndone b worker (Some (made.Below below)) new told = Holds b worker below.person × (new ≡ released b worker below.person) × (told ≡ note.Nothing)

-- the note on an offer, with or without a refused growth
abbrev pub IsHandedIn : {E : Type 0} → BookData → ℕ → Option Offer → BookData → Note → Result (Unit {0}) E → Type 0
IsHandedIn b worker offer new told outcome = MatchResult outcome (λ done. IsNoted b worker offer new told) (λ refused. IsUndone b worker offer new told)

-- after an offer, whatever the result: the worker has no claim, and the book is stopped if it was
pub record EndsClaim (worker : ℕ) (b new : BookData) : Type 0 where
  pub follows : Follows worker b new
  pub none : numbered new.claims worker None ≡ None
  pub stopped : new.stopped ≡ b.stopped

-- no growth was refused, whatever the note
abbrev pub Submits : BookData → ℕ → Option Offer → BookData → Type 0
Submits b worker offer new = (told : Note) × IsNoted b worker offer new told

-- the book, the worker's table and its version after the worker has caught up, if it does
abbrev pub book_kept_up : Bool → BookData → ℕ → BookData
book_kept_up catch_up b worker = cond catch_up (caught_up b worker) b

-- the worker's table after it has caught up, if it does
abbrev pub table_kept_up : Bool → BookData → List ℤ → List ℤ
table_kept_up catch_up b table = cond catch_up (prices_of b) table

-- the version of this table
abbrev pub version_kept_up : Bool → BookData → ℕ → ℕ
version_kept_up catch_up b version = cond catch_up (version_of b) version

-- the book after the next phase has begun, if this one is over
abbrev pub next_if_over : BookData → BookData
next_if_over b = cond (is_over b) (phased b) b

-- the book after the submission and before the claim
abbrev pub book_next : Bool → BookData → ℕ → BookData
book_next catch_up b worker = next_if_over (book_kept_up catch_up b worker)

-- the book at the end of the session
abbrev pub book_left : Bool → BookData → ℕ → BookData
book_left catch_up b worker = after_claim (book_next catch_up b worker) worker (claim_of (book_next catch_up b worker))

-- the offer that the worker prepares for its claimed person, from its own table
abbrev pub prepared : ScaledProblem → List ℤ → ℕ → Claim → Option Offer
prepared s table version (claim.Person person ask) = Some (offer_of s table version ask person)
prepared s table version claim.Refuted = None
prepared s table version claim.Done = None
prepared s table version claim.Stopped = None
prepared s table version claim.Wait = None
