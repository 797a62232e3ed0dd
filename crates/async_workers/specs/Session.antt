-- The effect of a worker's session on the book and its desk, in the terms of the core.
use Rattle.std.specs.Prelude.{◌≡◌, ◌⊎◌, ◌+◌, ◌-◌, ◌^◌, ℕ, Option, None, Some, Bool, true, false, cond, Ok, Err, ◌||◌, ◌&&◌, nat_lt, nat_le, min}
use Rattle.assign_core.specs.Numbered.{numbered}
use Rattle.bidder.specs.declared.offers.Offer.{Offer}
use Rattle.bidder.specs.declared.offers.Offer.TheVariants as made
use Rattle.auction_book.specs.declared.answers.Accepted.{Accepted}
use Rattle.auction_book.specs.declared.answers.Claim.{Claim}
use Rattle.auction_book.specs.declared.answers.Refused.TheVariants.{TooLow, Memory}
use Rattle.auction_book.specs.Book.{BookData, Holds}
use Rattle.auction_book.specs.Changes.{released}
use Rattle.auction_book.specs.Claims.{claim_of}
use Rattle.auction_book.specs.Session.{IsNoted, book_left, book_next, book_kept_up, table_kept_up, version_kept_up}
use Rattle.auction_book.specs.Submissions.{IsSubmitted}
use Rattle.auction_book.specs.declared.answers.Note.{Note}
use Rattle.auction_book.specs.declared.answers.Note.TheVariants as note
use Rattle.async_workers.specs.declared.rule.Known.{Known}
use Rattle.async_workers.specs.Desk.{DeskData}

-- the note on a bid that was too low
abbrev pub is_too_low : Note → Bool
is_too_low (note.Refused (TooLow price)) = true
is_too_low told = false

-- the next number, up to the greatest that is counted
abbrev pub one_more : ℕ → ℕ
one_more n = min (n + 1) (2 ^ 64 - 1)

-- the table catches up: after a bid that was too low, or when this many sessions have passed since
-- it last did
abbrev pub catches_up : ℕ → Bool → ℕ → Bool
catches_up refresh too_low since = too_low || (nat_lt 0 refresh && nat_le refresh (one_more since))

-- the desk after one more session
abbrev pub counted : Bool → DeskData → DeskData
counted caught d = record d { sessions = one_more d.sessions; since = cond caught 0 (one_more d.since) }

-- the desk's table after catching up, if it does
abbrev pub with_table : Bool → BookData → Known → Known
with_table caught b k = record k { table = table_kept_up caught b k.table; version = version_kept_up caught b k.version }

-- whether a session with this note catches up, after this many sessions since the last catching up
abbrev pub caught_in : ℕ → ℕ → Note → Bool
caught_in refresh since told = catches_up refresh (is_too_low told) since

-- the session of a desk that knew k and took the book b with an offer, if no growth is refused: the
-- book and what the desk knows at its end
pub record EndsWell (refresh since : ℕ) (k : Known) (offer : Option Offer) (told : Note) (answer : Claim)
    (b : BookData) (left : Known) (new : BookData) (caught : Bool) : Type 0 where
  pub submitted : BookData
  pub noted : IsNoted b k.number offer submitted told
  pub caught_up : caught ≡ caught_in refresh since told
  pub answered : answer ≡ claim_of (book_next caught submitted k.number)
  pub book : new ≡ book_left caught submitted k.number
  pub known : left ≡ with_table caught submitted k

-- the book that a refused growth leaves, before catching up, which a refused offer leaves out. A
-- bid was accepted, or its person waits again. After a search the claim is given up. Without an
-- offer the book is unchanged. The note is that the bid was accepted, that it was refused memory,
-- or nothing
abbrev pub IsCutShort : ℕ → ℕ → ℕ → Option Offer → Note → BookData → BookData → Bool → Type 0
IsCutShort refresh since worker None told b new caught = (new ≡ b) × (told ≡ note.Nothing) × (caught ≡ caught_in refresh since told)
IsCutShort refresh since worker (Some (made.Bid bid)) told b new caught =
    ((a : Accepted) × IsSubmitted b worker bid (Ok a) new × (told ≡ note.Accepted) × (caught ≡ caught_in refresh since told))
    ⊎ (IsSubmitted b worker bid (Err Memory) new × (told ≡ note.Refused Memory) × (caught ≡ false))
IsCutShort refresh since worker (Some (made.Below below)) told b new caught =
    Holds b worker below.person × (new ≡ released b worker below.person) × (told ≡ note.Nothing) × (caught ≡ false)

-- the session if a growth is refused: the worker has no claim
pub record EndsUndone (refresh since : ℕ) (k : Known) (offer : Option Offer) (told : Note) (b : BookData)
    (left : Known) (new : BookData) (caught : Bool) : Type 0 where
  pub submitted : BookData
  pub leaves : IsCutShort refresh since k.number offer told b submitted caught
  pub none : numbered new.claims k.number None ≡ None
  pub book : new ≡ book_kept_up caught submitted k.number
  pub known : left ≡ with_table caught submitted k
