-- What a pass knows of the book, and how its steps change this.
use Rattle.std.specs.Prelude.{ℕ, ◌+◌, Option, None, Some, Bool, true, false}
use Rattle.assign_core.specs.Numbered.{numbered}
use Rattle.bidder.specs.declared.offers.Ask.{Ask}
use Rattle.auction_book.specs.Book.{BookData, prices_of}
use Rattle.async_workers.specs.declared.place.Claimed.{Claimed}
use Rattle.async_workers.specs.declared.rule.Known.{Known}
use Rattle.async_workers.specs.declared.rule.LastSession.{LastSession}
use Rattle.async_workers.specs.declared.rule.View.{View}
use Rattle.async_workers.specs.declared.rule.View.TheVariants.{Fresh, Opening, Away, Holding, Meeting, Spent}

-- a claimed person, if there is one, with what the phase asks of its bid
abbrev pub claim_with : Option ℕ → Ask → Option Claimed
claim_with None ask = None
claim_with (Some person) ask = Some (record { person = person; ask = ask })

-- a worker's claim, with what the phase asks of its bid
abbrev pub claim_in : BookData → ℕ → Option Claimed
claim_in b worker = claim_with (numbered b.claims worker None) b.ask

-- what a desk knows after it has put this book back
abbrev pub known_after : Known → BookData → Known
known_after k put = record k { accepted = numbered put.counts k.number 0; claim = claim_in put k.number }

-- a desk that has put a book back
abbrev pub session_at : Known → BookData → BookData → LastSession
session_at k taken put = record { base = put.base; known = known_after k put; taken = taken; put = put }

-- what a new desk knows: the opening book's prices as version 0, no claim and no acceptance
abbrev pub first_known : BookData → ℕ → Known
first_known b number = record {
  number = number;
  table = prices_of b;
  version = 0;
  accepted = 0;
  claim = None;
  stop = false;
}

-- a new desk
abbrev pub first_session : BookData → ℕ → LastSession
first_session b number = record { base = b.base; known = first_known b number; taken = b; put = b }

-- the opener's view after one more desk
abbrev pub opener_next : BookData → View → View
opener_next b Fresh = Opening b 1
opener_next b (Opening o made) = Opening o (made + 1)
opener_next b v = Spent

-- the view of this desk
abbrev pub desk_made : BookData → View → View
desk_made b Fresh = Away (first_session b 1)
desk_made b (Opening o made) = Away (first_session o (made + 1))
desk_made b v = Spent

-- a closer's view after it has taken in a desk
abbrev pub met : View → View → View
met (Holding t taken) (Away u) = Meeting t taken u
met (Meeting t taken s) (Away u) = Meeting t taken u
met v w = v

-- the place is empty while a pass has this view
abbrev pub keeps_empty : View → Bool
keeps_empty (Away t) = false
keeps_empty Spent = false
keeps_empty v = true
